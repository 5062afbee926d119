-- The place of a mark behind a text.
use Rattle.std.proofs.Common.{◌≡◌, ℕ, ◌+◌, Option, Some, None, List, [], ◌++◌, length, refl, sym, ap, ◌∙◌, arith}
use Rattle.std.specs.Option.{option_map}
use Rattle.std.proofs.lemmas.List.{append_assoc, length-append}

-- No mark begins within the text: the place that the one search finds from its front is the place that the other finds behind it.
abbrev pub IsOver : (List ℕ → Option ℕ) → (List ℕ → Option ℕ) → List ℕ → List ℕ → Type 0
IsOver place later text rest = place (text ++ rest) ≡ option_map (λ i. length text + i) (later rest)

add_up : (m n : ℕ) (o : Option ℕ) → option_map (λ i. m + i) (option_map (λ i. n + i) o) ≡ option_map (λ i. (m + n) + i) o
add_up m n None = refl
add_up m n (Some i) = ap Some (omega arith)

-- nothing is over at once
pub empty_over : (place : List ℕ → Option ℕ) (rest : List ℕ) → IsOver place place [] rest
empty_over place rest = same (place rest)
  where
    same : (o : Option ℕ) → o ≡ option_map (λ i. 0 + i) o
    same None = refl
    same (Some i) = ap Some (omega arith)

-- one text behind another
pub both_over : (first second third : List ℕ → Option ℕ) (a b rest : List ℕ) → IsOver first second a (b ++ rest)
    → IsOver second third b rest → IsOver first third (a ++ b) rest
both_over first second third a b rest h k = ap first (append_assoc a b rest) ∙ h ∙ ap (option_map (λ i. length a + i)) k
    ∙ add_up (length a) (length b) (third rest) ∙ ap (λ n. option_map (λ i. n + i) (third rest)) (sym (length-append a b))
