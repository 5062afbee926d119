-- Texts that are cut into pieces at marks (source: own).
use Rattle.std.specs.Prelude.{◌≡◌, ℕ, ◌+◌, ◌==◌, ◌&&◌, ◌||◌, Bool, true, false, not, Option, Some, None, List, [], ◌∷◌, reverse, take, drop, codes, if◌then◌else◌}
use Rattle.std.specs.List.{list_all}
use Rattle.std.specs.Option.{option_map}
use Rattle.std.specs.Str.{bytes_eq}
use Rattle.route_base.specs.Forms.{is_blank}
use Rattle.opening_hours.specs.Tokens.{without_blanks}

-- without the blanks at both ends
abbrev pub trimmed : List ℕ → List ℕ
trimmed bs = reverse (without_blanks (reverse (without_blanks bs)))

-- each byte is a blank
abbrev pub AreBlanks : List ℕ → Type 0
AreBlanks bs = list_all is_blank bs ≡ true

-- The text is cut at each mark, one after another: `first_mark` is the place of the first mark of a text, if it has one, and a mark is
-- `width` bytes long. Each piece is one of these things.
pub data Cut {B : Type 0} (first_mark : List ℕ → Option ℕ) (width : ℕ) (Is : List ℕ → B → Type 0) : List ℕ → List B → Type 0 where
  last : {text : List ℕ} {x : B} → first_mark text ≡ None → Is text x → Cut first_mark width Is text (x ∷ [])
  more : {text : List ℕ} {i : ℕ} {x : B} {xs : List B} → first_mark text ≡ Some i → Is (take i text) x
      → Cut first_mark width Is (drop (i + width) text) xs → Cut first_mark width Is text (x ∷ xs)

-- whether what follows a byte is within parentheses
abbrev pub is_within : Bool → ℕ → Bool
is_within within b = if b == 40 then true else if b == 41 then false else within

-- the place of the first semicolon outside parentheses, in a text that begins within them or outside
abbrev pub semicolon_from : Bool → List ℕ → Option ℕ
semicolon_from within [] = None
semicolon_from within (b ∷ bs) =
    if not within && b == 59 then Some 0 else option_map (λ i. 1 + i) (semicolon_from (is_within within b) bs)

-- the place of the first semicolon outside parentheses
abbrev pub first_semicolon : List ℕ → Option ℕ
first_semicolon text = semicolon_from false text

-- whether the three bytes are the word that joins parts
abbrev pub is_and : List ℕ → Bool
is_and word = bytes_eq word (codes "AND") || bytes_eq word (codes "and")

-- whether the text begins with a blank, this word and a blank
abbrev pub starts_with_and : List ℕ → Bool
starts_with_and (a ∷ b ∷ c ∷ d ∷ e ∷ bs) = is_blank a && (is_and (b ∷ c ∷ d ∷ []) && is_blank e)
starts_with_and bs = false

-- the place of the first blank that such a word and a blank follow
abbrev pub first_and : List ℕ → Option ℕ
first_and [] = None
first_and (b ∷ bs) = if starts_with_and (b ∷ bs) then Some 0 else option_map (λ i. 1 + i) (first_and bs)
