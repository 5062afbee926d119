-- Parts of right texts put together.
use Rattle.std.proofs.Common.{◌≡◌, ⊎_elim, ℕ, zero, suc, ◌+◌, ◌-◌, ◌≤◌, ◌<◌, Some, None, List, [], ◌∷◌, ◌++◌, length, sym}
use Rattle.std.proofs.Common.{subst, arith, length-append}
use Rattle.std.specs.Prelude.{slice_get}
use Rattle.std.proofs.lemmas.Bool.{cases_lt}
use Rattle.trip_batch.specs.Right.{AreRight}

get_left : (xs ys : List (List ℕ)) (k : ℕ) (x : List ℕ) → slice_get (xs ++ ys) k ≡ Some x → k < length xs → slice_get xs k ≡ Some x
get_left [] ys k x is below = absurd (omega (arith, below))
get_left (y ∷ xs) ys zero x is below = is
get_left (y ∷ xs) ys (suc k) x is below = get_left xs ys k x is (omega (arith, below))

get_right : (xs ys : List (List ℕ)) (k : ℕ) (x : List ℕ) → slice_get (xs ++ ys) k ≡ Some x → length xs ≤ k → slice_get ys (k - length xs) ≡ Some x
get_right [] ys k x is above = let same : k - 0 ≡ k = omega arith in subst (λ (n : ℕ). slice_get ys n ≡ Some x) (sym same) is
get_right (y ∷ xs) ys zero x is above = absurd (omega (arith, above))
get_right (y ∷ xs) ys (suc k) x is above =
    let same : k - length xs ≡ suc k - suc (length xs) = omega arith in
    subst (λ (n : ℕ). slice_get ys n ≡ Some x) same (get_right xs ys k x is (omega (arith, above)))

pub right-append : (R : ℕ → List ℕ → Type 0) (from middle to : ℕ) (xs ys : List (List ℕ)) → AreRight R from middle xs → AreRight R middle to ys
    → AreRight R from to (xs ++ ys)
right-append R from middle to xs ys left right = record {
  count = omega (arith, left.count, right.count, length-append xs ys);
  each = λ k text is. ⊎_elim
      (λ (below : k < length xs). left.each k text (get_left xs ys k text is below))
      (λ (above : length xs ≤ k). let same : middle + (k - length xs) ≡ from + k = omega (arith, left.count, above) in
      subst (λ (n : ℕ). R n text) same (right.each (k - length xs) text (get_right xs ys k text is above)))
      (cases_lt k (length xs));
}

one_right : (R : ℕ → List ℕ → Type 0) (n : ℕ) (text : List ℕ) → R n text → (k : ℕ) (x : List ℕ) → slice_get (text ∷ []) k ≡ Some x → R (n + k) x
one_right R n text right zero x is =
    let here : text ≡ x = cc in
    let same : n ≡ n + 0 = omega arith in
    subst (λ (m : ℕ). R m x) same (subst (R n) here right)
one_right R n text right (suc k) x is = let bad : None ≡ Some x = is in cc

-- one right text more
pub right-push : (R : ℕ → List ℕ → Type 0) (from to : ℕ) (texts : List (List ℕ)) (text : List ℕ) → AreRight R from to texts → R to text
    → AreRight R from (to + 1) (texts ++ text ∷ [])
right-push R from to texts text right more = right-append R from to (to + 1) texts (text ∷ []) right (record {
  count = omega arith;
  each = one_right R to text more;
})
