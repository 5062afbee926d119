-- Texts that can stand between the words AND, and within parentheses.
use Rattle.std.proofs.Common.{◌≡◌, ℕ, ◌+◌, Bool, true, false, cond, List, [], ◌∷◌, ◌++◌, reverse, Some, refl, sym, ap}
use Rattle.std.proofs.Common.{subst, ◌∙◌}
use Rattle.std.specs.List.{list_all, list_any}
use Rattle.std.specs.Option.{option_map}
use Rattle.std.proofs.lemmas.Bool.{and_parts, or_parts, or_from}
use Rattle.std.proofs.lemmas.Grind.{reverse_onto}
use Rattle.std.proofs.lemmas.List.{reverse-reverse}
use Rattle.route_base.specs.Forms.{is_blank}
use Rattle.opening_hours.specs.Tokens.{without_blanks}
use Rattle.opening_hours.specs.PlainText.{StartsFilled, EndsFilled}
use Rattle.conditional_rules.specs.Cutting.{trimmed, starts_with_and, first_and}
use Rattle.conditional_rules.proofs.Over.{IsOver, empty_over, both_over}
use Rattle.conditional_rules.specs.Conditions.{has_parenthesis}

-- nothing, or a text that begins with a blank
abbrev pub IsGap : List ℕ → Type 0
IsGap [] = Unit {0}
IsGap (b ∷ bs) = is_blank b ≡ true

-- no word AND begins within the text, before what follows it
abbrev pub PassesOver : List ℕ → List ℕ → Type 0
PassesOver text rest = IsOver first_and first_and text rest

-- no blank at the ends, no parenthesis, and no word AND where a gap is behind the text
pub record IsCompact (text : List ℕ) : Type 0 where
  pub starts : StartsFilled text
  pub ends : EndsFilled text
  pub plain : has_parenthesis text ≡ false
  pub behind : (rest : List ℕ) → IsGap rest → starts_with_and (32 ∷ (text ++ rest)) ≡ false
  pub passes : (rest : List ℕ) → IsGap rest → PassesOver text rest

-- there is no blank
abbrev pub IsDark : List ℕ → Type 0
IsDark bs = list_any is_blank bs ≡ false

-- a test that fails for each byte of one kind fails for a text of this kind
pub none_of : (kind test : ℕ → Bool) → ((b : ℕ) → kind b ≡ true → test b ≡ false) → (text : List ℕ) → list_all kind text ≡ true
    → list_any test text ≡ false
none_of kind test none [] h = refl
none_of kind test none (b ∷ bs) h =
    let parts = and_parts (kind b) (list_all kind bs) h in
    or_from (test b) (list_any test bs) (none b parts.0) (none_of kind test none bs parts.1)

-- a byte that is no blank begins no word AND
no_blank_no_and : (b : ℕ) (bs : List ℕ) → is_blank b ≡ false → starts_with_and (b ∷ bs) ≡ false
no_blank_no_and b [] h = refl
no_blank_no_and b (c ∷ []) h = refl
no_blank_no_and b (c ∷ d ∷ []) h = refl
no_blank_no_and b (c ∷ d ∷ e ∷ []) h = refl
no_blank_no_and b (c ∷ d ∷ e ∷ f ∷ bs) h = rw h refl

pub step : (b : ℕ) (bs : List ℕ) → starts_with_and (b ∷ bs) ≡ false → PassesOver (b ∷ []) bs
step b bs h = ap (λ v. cond v (Some 0) (option_map (λ i. 1 + i) (first_and bs))) h

-- a word is passed over
pub dark_passes : (w rest : List ℕ) → IsDark w → PassesOver w rest
dark_passes [] rest h = empty_over first_and rest
dark_passes (b ∷ bs) rest h =
    let parts = or_parts (is_blank b) (list_any is_blank bs) h in
    let front = step b (bs ++ rest) (no_blank_no_and b (bs ++ rest) parts.0) in
    both_over first_and first_and first_and (b ∷ []) bs rest front (dark_passes bs rest parts.1)

pub starts_before : (a b : List ℕ) → StartsFilled a → StartsFilled (a ++ b)
starts_before [] b h = absurd h
starts_before (x ∷ a) b h = h

-- a text that begins with no blank
starts_trimmed : (a : List ℕ) → StartsFilled a → without_blanks a ≡ a
starts_trimmed [] h = refl
starts_trimmed (x ∷ a) h = ap (λ v. cond v (without_blanks a) (x ∷ a)) h

-- the last byte is the first of the text turned round
turned : (a : List ℕ) → EndsFilled a → StartsFilled (reverse a)
turned [] h = absurd h
turned (x ∷ []) h = h
turned (x ∷ y ∷ a) h = subst StartsFilled (sym (reverse_onto (y ∷ a) x [])) (starts_before (reverse (y ∷ a)) (x ∷ []) (turned (y ∷ a) h))

-- without blanks at its ends a text stays as it is
pub trimmed_same : (a : List ℕ) → StartsFilled a → EndsFilled a → trimmed a ≡ a
trimmed_same a h k = ap (λ (b : List ℕ). reverse (without_blanks (reverse b))) (starts_trimmed a h)
    ∙ ap reverse (starts_trimmed (reverse a) (turned a k)) ∙ reverse-reverse a
