-- Items at their numbers in a list that grows at its end.
use Rattle.std.proofs.Common.{◌≡◌, ◌⊎◌, inl, inr, ⊎_elim, ℕ, zero, suc, ◌+◌, List, [], ◌∷◌, ◌++◌, length, get_or, All, Some, refl, sym, ◌∙◌, ap, arith}
use Rattle.std.specs.Prelude.{slice_get}
use Rattle.route_base.specs.Net.{at_number}
use Rattle.std.proofs.lemmas.Option.{slice_get_within}
use Rattle.route_base.proofs.Items.{slice_get-append_left, slice_get-push_end}
use Rattle.route_base.proofs.Numbered.{at_number-next}

-- the item of a number is there in the longer list
pub at_left : {A : Type 0} (xs ys : List A) (n : ℕ) (x : A) → at_number xs n ≡ Some x → at_number (xs ++ ys) n ≡ Some x
at_left xs ys zero x is = absurd (cc)
at_left xs ys (suc k) x is = slice_get-append_left xs ys k (slice_get_within xs k x is) ∙ is

-- an item behind a list
pub at_right : {A : Type 0} (xs ys : List A) (n : ℕ) (y : A) → at_number ys n ≡ Some y → at_number (xs ++ ys) (length xs + n) ≡ Some y
at_right [] ys n y is = let same : 0 + n ≡ n = omega arith in ap (at_number ys) same ∙ is
at_right (x ∷ xs) ys zero y is = absurd (cc)
at_right (x ∷ xs) ys (suc k) y is =
    let step : length (x ∷ xs) + suc k ≡ suc (suc (length xs + k)) = omega arith in
    let inner : length xs + suc k ≡ suc (length xs + k) = omega arith in
    ap (at_number (x ∷ xs ++ ys)) step ∙ ap (at_number (xs ++ ys)) (sym inner) ∙ at_right xs ys (suc k) y is

-- an item of two lists behind one another is one of the first or of the second
pub at_both : {A : Type 0} (xs ys : List A) (n : ℕ) (x : A) → at_number (xs ++ ys) n ≡ Some x
    → (at_number xs n ≡ Some x) ⊎ ((k : ℕ) × (n ≡ length xs + k) × (at_number ys k ≡ Some x))
at_both [] ys n x is = inr (n, omega arith, is)
at_both (z ∷ xs) ys zero x is = absurd (cc)
at_both (z ∷ xs) ys (suc zero) x is = inl is
at_both {A} (z ∷ xs) ys (suc (suc k)) x is = ⊎_elim
    (λ (left : at_number xs (suc k) ≡ Some x). inl left)
    (λ (right : (i : ℕ) × (suc k ≡ length xs + i) × (at_number ys i ≡ Some x)). inr (right.0, omega (arith, right.1), right.2))
    (at_both xs ys (suc k) x is)

got_either : {A : Type 0} (xs : List A) (y : A) (k : ℕ) (x : A) → slice_get (xs ++ y ∷ []) k ≡ Some x → (slice_get xs k ≡ Some x) ⊎ ((k ≡ length xs) × (y ≡ x))
got_either [] y zero x is = inr (refl, cc)
got_either [] y (suc k) x is = absurd (cc)
got_either (z ∷ xs) y zero x is = inl is
got_either {A} (z ∷ xs) y (suc k) x is = ⊎_elim
    (λ (left : slice_get xs k ≡ Some x). inl left)
    (λ (right : (k ≡ length xs) × (y ≡ x)). inr (omega (arith, right.0), right.1))
    (got_either xs y k x is)

-- an item of the longer list is one of the list, or the last
pub at_either : {A : Type 0} (xs : List A) (y : A) (n : ℕ) (x : A) → at_number (xs ++ y ∷ []) n ≡ Some x
    → (at_number xs n ≡ Some x) ⊎ ((n ≡ length xs + 1) × (y ≡ x))
at_either xs y zero x is = absurd (cc)
at_either xs y (suc k) x is = ⊎_elim
    (λ (left : slice_get xs k ≡ Some x). inl left)
    (λ (right : (k ≡ length xs) × (y ≡ x)). inr (omega (arith, right.0), right.1))
    (got_either xs y k x is)

pub at_last : {A : Type 0} (xs : List A) (y : A) → at_number (xs ++ y ∷ []) (length xs + 1) ≡ Some y
at_last xs y = let next : length xs + 1 ≡ suc (length xs) = omega arith in ap (λ (n : ℕ). at_number (xs ++ y ∷ []) n) next ∙ slice_get-push_end xs y

-- what holds at each number holds of all items
pub by_numbers : {A : Type 0} (P : A → Type 0) (xs : List A) → ((n : ℕ) (x : A) → at_number xs n ≡ Some x → P x) → All P xs
by_numbers P xs each k d within = each (k + 1) (get_or xs k d) (at_number-next xs k d within)
