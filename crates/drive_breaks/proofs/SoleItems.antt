-- Of two items of which each is the first one, and of two lists whose items follow from their keys, there is just one.
use Rattle.std.proofs.Common.{◌≡◌, ◌⊎◌, ⊎_elim, suc, List, [], ◌∷◌, map, refl, sym, arith}
use Rattle.std.specs.Prelude.{All}
use Rattle.route_base.proofs.Lists.{same_head, same_tail}

-- where at most one of two comes before the other, and each is the other or comes before it, they are one
pub sole_first : {A B : Type 0} (place : A → B) (Before : B → B → Type 0) → ((p q : B) → Before p q → Before q p → ⊥) → (x y : A)
    → (y ≡ x) ⊎ Before (place x) (place y) → (x ≡ y) ⊎ Before (place y) (place x) → x ≡ y
sole_first place Before never x y first second = ⊎_elim
    (λ (same : y ≡ x). sym same)
    (λ (before : Before (place x) (place y)). ⊎_elim
    (λ (same : x ≡ y). same)
    (λ (after : Before (place y) (place x)). absurd (never (place x) (place y) before after))
    second)
    first

-- where items of one key are one, lists of the same keys are
module _ {A B : Type 0} (key : A → B) (Fits : A → Type 0) (sole : (x y : A) → Fits x → Fits y → key x ≡ key y → x ≡ y) where
  pub sole_list : (xs ys : List A) → All Fits xs → All Fits ys → map key xs ≡ map key ys → xs ≡ ys
  sole_list [] [] fit_x fit_y keys = refl
  sole_list [] (y ∷ ys) fit_x fit_y keys = absurd (cc)
  sole_list (x ∷ xs) [] fit_x fit_y keys = absurd (cc)
  sole_list (x ∷ xs) (y ∷ ys) fit_x fit_y keys =
      let first = sole x y (fit_x 0 x (omega arith)) (fit_y 0 y (omega arith)) (same_head keys) in
      let rest = sole_list xs ys (λ k d within. fit_x (suc k) d (omega (arith, within))) (λ k d within. fit_y (suc k) d (omega (arith, within)))
      (same_tail keys) in
      λ i. first i ∷ rest i
