-- Items at places that are counted from 1.
use Rattle.std.proofs.Common.{◌≡◌, ℕ, zero, suc, ◌+◌, ◌-◌, ◌≤◌, ◌<◌, List, [], ◌∷◌, length, get_or, map, Some, refl, subst, arith, add-one, None}
use Rattle.std.specs.Prelude.{IsSome, All, slice_get}
use Rattle.std.specs.Option.{option_map}
use Rattle.std.proofs.lemmas.Option.{slice_get-get_or, slice_get-map, slice_get_within, get_or_from_slice_get, slice_get_past}
use Rattle.route_base.specs.Net.{at_number}

got_within : {A : Type 0} (xs : List A) (k : ℕ) → IsSome (slice_get xs k) → k < length xs
got_within [] k h = absurd (cc)
got_within (x ∷ xs) zero h = omega arith
got_within (x ∷ xs) (suc k) h = omega (arith, got_within xs k h)

-- an item of this number is within the list
pub within_number : {A : Type 0} (xs : List A) (n : ℕ) → IsSome (at_number xs n) → n - 1 < length xs
within_number xs zero h = absurd (cc)
within_number xs (suc k) h = omega (arith, got_within xs k h)

-- the number of an item is from 1 to the length of the list
pub number_within : {A : Type 0} (xs : List A) (n : ℕ) (x : A) → at_number xs n ≡ Some x → (1 ≤ n) × (n ≤ length xs)
number_within xs zero x is = absurd (cc)
number_within xs (suc k) x is = let within = slice_get_within xs k x is in (omega arith, omega (arith, within))

-- an empty list has none
pub no_number : {A : Type 0} (n : ℕ) (x : A) → at_number [] n ≡ Some x → ⊥
no_number zero x is = cc
no_number (suc k) x is = cc

-- no item is behind the last
pub number_past : {A : Type 0} (xs : List A) (n : ℕ) → length xs < n → at_number xs n ≡ None
number_past xs zero past = refl
number_past xs (suc k) past = slice_get_past xs k (omega (arith, past))

-- the item of the number after a place
pub at_number-next : {A : Type 0} (xs : List A) (k : ℕ) (d : A) → k < length xs → at_number xs (k + 1) ≡ Some (get_or xs k d)
at_number-next xs k d within = rw add-one (slice_get-get_or xs k d within)

pub at_number-map : {A B : Type 0} (f : A → B) (xs : List A) (n : ℕ) → at_number (map f xs) n ≡ option_map f (at_number xs n)
at_number-map f xs zero = refl
at_number-map f xs (suc k) = slice_get-map f xs k

-- an item is in the list
pub at_number-all : {A : Type 0} (P : A → Type 0) (xs : List A) (n : ℕ) (x : A) → All P xs → at_number xs n ≡ Some x → P x
at_number-all P xs zero x all is = absurd (cc)
at_number-all P xs (suc k) x all is = subst P (get_or_from_slice_get xs k x x is) (all k x (slice_get_within xs k x is))
