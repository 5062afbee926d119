-- One piece of words after another.
use Rattle.std.proofs.Common.{◌≡◌, ℕ, Bool, false, Option, Some, None, List, [], ◌∷◌, ◌++◌, map, refl, ap, sym, ◌∙◌, append_assoc, append-nil, arith, length}
use Rattle.std.proofs.Common.{ap₂}
use Rattle.std.proofs.lemmas.List.{map-append}
use Rattle.std.specs.Prelude.{option_map, not, ◌&&◌, if◌then◌else◌}
use Rattle.std.specs.List.{after_first, before_first}
use Rattle.front_words.specs.Splitting.{Given, Split, Piece, plain, named, assigned, stray, is_option, is_dashed, is_equals, split_of_pieces}
use Rattle.front_words.specs.Splitting.{piece_of, split_of, with_given, with_place}
use Rattle.front_words.specs.Inside.{IsDivided, follow}

-- one positional word more, at the end
abbrev pub and_place : Split → List ℕ → Split
and_place done word = record done { places = done.places ++ word ∷ [] }

-- one option more, at the end
abbrev pub and_given : Split → List ℕ → List ℕ → Split
and_given done option value = record done { given = done.given ++ record { option = option; value = value } ∷ [] }

-- one element more, mapped
pub one_more : {X Y : Type 0} (f : X → Y) (xs ys : List X) (x : X) → ys ≡ xs ++ x ∷ [] → map f ys ≡ map f xs ++ f x ∷ []
one_more f xs ys x e = ap (map f) e ∙ map-append f xs (x ∷ [])

same_split : (s t : Split) → s.places ≡ t.places → s.given ≡ t.given → s ≡ t
same_split s t p g = ap₂ (λ (a : List (List ℕ)) (b : List Given). let u : Split = record { places = a; given = b } in u) p g

follow_place : (done : Split) (word : List ℕ) (o : Option Split)
    → option_map (follow done) (option_map (with_place word) o) ≡ option_map (follow (and_place done word)) o
follow_place done word None = refl
follow_place done word (Some s) = simp append_assoc

follow_given : (done : Split) (option value : List ℕ) (o : Option Split)
    → option_map (follow done) (option_map (with_given option value) o) ≡ option_map (follow (and_given done option value)) o
follow_given done option value None = refl
follow_given done option value (Some s) = simp append_assoc

-- a word is read by whether it begins with `-`
abbrev by_dash : List (List ℕ) → List ℕ → Bool → Piece
by_dash options word b = if not b then plain word else if is_option options word then named word
    else if is_option options (before_first is_equals word) && not (is_dashed (after_first is_equals word))
    then assigned (before_first is_equals word) (after_first is_equals word) else stray

-- at each step the rest begins with the words that the step takes
module _ {options words rest : List (List ℕ)} {done new : Split} where
  pub adds_place : {word place : List ℕ} {behind : List (List ℕ)} → IsDivided options words done rest
      → rest ≡ word ∷ behind → piece_of options word ≡ plain place → new.places ≡ done.places ++ place ∷ [] → new.given ≡ done.given
      → IsDivided options words new behind
  adds_place {word} {place} {behind} d r e p g = record {
    same = d.same
        ∙ ap (λ ws. option_map (follow done) (split_of options ws)) r
        ∙ ap (λ p. option_map (follow done) (split_of_pieces (p ∷ map (piece_of options) behind))) e
        ∙ follow_place done place (split_of options behind)
        ∙ ap (λ s. option_map (follow s) (split_of options behind)) (sym (same_split _ _ p g));
  }

  pub adds_assigned : {word option value : List ℕ} {behind : List (List ℕ)} → IsDivided options words done rest
      → rest ≡ word ∷ behind → piece_of options word ≡ assigned option value → new.places ≡ done.places
      → new.given ≡ done.given ++ record { option = option; value = value } ∷ []
      → IsDivided options words new behind
  adds_assigned {word} {option} {value} {behind} d r e p g = record {
    same = d.same
        ∙ ap (λ ws. option_map (follow done) (split_of options ws)) r
        ∙ ap (λ p. option_map (follow done) (split_of_pieces (p ∷ map (piece_of options) behind))) e
        ∙ follow_given done option value (split_of options behind)
        ∙ ap (λ s. option_map (follow s) (split_of options behind)) (sym (same_split _ _ p g));
  }

  pub adds_named : {word option value : List ℕ} {first behind : List (List ℕ)} → IsDivided options words done rest
      → rest ≡ word ∷ first → piece_of options word ≡ named option → first ≡ value ∷ behind → is_dashed value ≡ false
      → new.places ≡ done.places → new.given ≡ done.given ++ record { option = option; value = value } ∷ []
      → IsDivided options words new behind
  adds_named {word} {option} {value} {first} {behind} d r e f h p g = record {
    same = d.same
        ∙ ap (λ ws. option_map (follow done) (split_of options ws)) (r ∙ ap (λ ws. word ∷ ws) f)
        ∙ ap (λ p. option_map (follow done) (split_of_pieces (p ∷ piece_of options value ∷ map (piece_of options) behind))) e
        ∙ ap (λ b. option_map (follow done) (split_of_pieces (named option ∷ by_dash options value b ∷ map (piece_of options) behind))) h
        ∙ follow_given done option value (split_of options behind)
        ∙ ap (λ s. option_map (follow s) (split_of options behind)) (sym (same_split _ _ p g));
  }

-- all words are done
pub all_divided : (options words rest : List (List ℕ)) (done : Split) → IsDivided options words done rest → length rest ≡ 0
    → split_of options words ≡ Some done
all_divided options words [] done d e =
    d.same ∙ ap (λ s. Some s) (same_split (follow done (record { places = []; given = [] })) done (append-nil done.places) (append-nil done.given))
all_divided options words (word ∷ rest) done d e = absurd (omega arith)
