-- The items of a list by their places, where the list grows at its end.
use Rattle.std.proofs.Common.{◌≡◌, ℕ, zero, suc, ◌<◌, Option, Some, List, [], ◌∷◌, ◌++◌, length, refl, arith}
use Rattle.std.specs.Prelude.{slice_get}
use Rattle.std.specs.List.{last_or}

pub slice_get-append_left : {A : Type 0} (xs ys : List A) (i : ℕ) → i < length xs → slice_get (xs ++ ys) i ≡ slice_get xs i
slice_get-append_left [] ys i within = absurd (omega arith)
slice_get-append_left (x ∷ xs) ys zero within = refl
slice_get-append_left (x ∷ xs) ys (suc i) within = slice_get-append_left xs ys i (omega arith)

-- the item that was added is the last
pub slice_get-push_end : {A : Type 0} (xs : List A) (y : A) → slice_get (xs ++ y ∷ []) (length xs) ≡ Some y
slice_get-push_end [] y = refl
slice_get-push_end (x ∷ xs) y = slice_get-push_end xs y

-- the last item is that of the last place
pub last_or-cons : {A : Type 0} (o : Option A) (x : A) (xs : List A) → last_or o (x ∷ xs) ≡ slice_get (x ∷ xs) (length xs)
last_or-cons o x [] = refl
last_or-cons o x (y ∷ ys) = last_or-cons (Some x) y ys

-- four items by their places
pub four_items : {A : Type 0} (xs : List A) (a b c d : A) → length xs ≡ 4 → slice_get xs 0 ≡ Some a → slice_get xs 1 ≡ Some b → slice_get xs 2 ≡ Some c
    → slice_get xs 3 ≡ Some d → xs ≡ a ∷ b ∷ c ∷ d ∷ []
four_items [] a b c d n p q r s = absurd (omega (arith, n))
four_items (v ∷ []) a b c d n p q r s = absurd (omega (arith, n))
four_items (v ∷ w ∷ []) a b c d n p q r s = absurd (omega (arith, n))
four_items (v ∷ w ∷ x ∷ []) a b c d n p q r s = absurd (omega (arith, n))
four_items (v ∷ w ∷ x ∷ y ∷ []) a b c d n p q r s = cc
four_items (v ∷ w ∷ x ∷ y ∷ z ∷ xs) a b c d n p q r s = absurd (omega (arith, n))
