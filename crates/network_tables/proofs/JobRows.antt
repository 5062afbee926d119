-- The five fields of a job's row by their places.
use Rattle.std.proofs.Common.{◌≡◌, ℕ, Some, List, [], ◌∷◌, length, arith}
use Rattle.std.specs.Prelude.{slice_get}

pub five : (fs : List (List ℕ)) (a b c d e : List ℕ) → length fs ≡ 5 → slice_get fs 0 ≡ Some a → slice_get fs 1 ≡ Some b → slice_get fs 2 ≡ Some c
    → slice_get fs 3 ≡ Some d → slice_get fs 4 ≡ Some e → fs ≡ a ∷ b ∷ c ∷ d ∷ e ∷ []
five [] a b c d e n p q r s t = absurd (omega (arith, n))
five (v ∷ []) a b c d e n p q r s t = absurd (omega (arith, n))
five (v ∷ w ∷ []) a b c d e n p q r s t = absurd (omega (arith, n))
five (v ∷ w ∷ x ∷ []) a b c d e n p q r s t = absurd (omega (arith, n))
five (v ∷ w ∷ x ∷ y ∷ []) a b c d e n p q r s t = absurd (omega (arith, n))
five (v ∷ w ∷ x ∷ y ∷ z ∷ []) a b c d e n p q r s t = cc
five (v ∷ w ∷ x ∷ y ∷ z ∷ u ∷ fs) a b c d e n p q r s t = absurd (omega (arith, n))
