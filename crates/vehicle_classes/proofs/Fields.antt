-- The ten fields of a row by their places.
use Rattle.std.proofs.Common.{◌≡◌, ℕ, zero, suc, Some, List, [], ◌∷◌, length, drop, arith}
use Rattle.std.specs.Prelude.{slice_get}

-- the next field, and what is behind it
pub next : (fs : List (List ℕ)) (i : ℕ) (a : List ℕ) (bs : List (List ℕ)) → slice_get fs i ≡ Some a → drop (suc i) fs ≡ bs → drop i fs ≡ a ∷ bs
next [] i a bs p q = cc
next (f ∷ fs) zero a bs p q = cc
next (f ∷ fs) (suc i) a bs p q = next fs i a bs p q

-- nothing is behind the last
pub none_left : (fs : List (List ℕ)) (n : ℕ) → length fs ≡ n → drop n fs ≡ []
none_left [] zero e = cc
none_left [] (suc n) e = cc
none_left (f ∷ fs) zero e = absurd (omega (arith, e))
none_left (f ∷ fs) (suc n) e = none_left fs n (omega (arith, e))
