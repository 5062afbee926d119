-- Words that are too many or too few.
use Rattle.std.proofs.Common.{◌≡◌, ◌≢◌, ℕ, Option, Some, None, List, [], ◌∷◌, length, map, refl, sym, ap, Bor, suc}
use Rattle.std.specs.Prelude.{option_and_then, option_map}
use Rattle.front_words.specs.Forms.{Value, WordForm, value_of_word}
use Rattle.front_words.specs.Usages.{places_read}

no_more : (form : WordForm) (word : List ℕ) (o : Option (List Value)) → o ≡ None
    → option_and_then (λ v. option_map (λ vs. v ∷ vs) o) (value_of_word form word) ≡ None
no_more form word o e = rw e (at (value_of_word form word))
  where
    at : (v : Option Value) → option_and_then (λ v. option_map (λ vs. v ∷ vs) (let n : Option (List Value) = None in n)) v ≡ None
    at None = refl
    at (Some v) = refl

-- words are refused where there are more or fewer than forms
pub miscounted : (forms : List WordForm) (words : List (Bor (List ℕ))) → length words ≢ length forms
    → None ≡ places_read forms (map (λ w. w.now) words)
miscounted [] [] h = absurd (h refl)
miscounted [] (word ∷ words) h = refl
miscounted (form ∷ forms) [] h = refl
miscounted (form ∷ forms) (word ∷ words) h =
    sym (no_more form word.now _ (sym (miscounted forms words (λ e. h (ap (λ n. suc n) e)))))
