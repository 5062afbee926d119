-- The order of steps over states, and of walks, the last step first.
use Rattle.std.proofs.Common.{◌≡◌, ◌⊎◌, inl, inr, ⊎_elim, ℕ, zero, suc, ◌/◌, ◌%◌, ◌<◌, List, [], ◌∷◌, ◌++◌, refl, sym, ◌∙◌, subst, arith}
use Rattle.std.specs.Prelude.{reverse}
use Rattle.std.proofs.lemmas.List.{reverse-append}
use Rattle.route_base.specs.Itinerary.{Step, drive, wait}
use Rattle.ruled_states.specs.Inside.Codes.{base}
use Rattle.ruled_search.specs.Routes.{AreAlikeSteps, ComesRuledBefore, IsAlikeStep, IsKindBefore, IsRuledStepBefore}

-- each kind of roads comes before another, or after it, or is the same
pub kinds_ordered : (m n : ℕ) → m < 3 → n < 3 → IsKindBefore m n ⊎ ((m ≡ n) ⊎ IsKindBefore n m)
kinds_ordered zero zero _ _ = inr (inl refl)
kinds_ordered zero (suc zero) _ _ = inr (inr (inl (refl, inl refl)))
kinds_ordered zero (suc (suc zero)) _ _ = inl (inr (refl, refl))
kinds_ordered (suc zero) zero _ _ = inl (inl (refl, inl refl))
kinds_ordered (suc zero) (suc zero) _ _ = inr (inl refl)
kinds_ordered (suc zero) (suc (suc zero)) _ _ = inl (inl (refl, inr refl))
kinds_ordered (suc (suc zero)) zero _ _ = inr (inr (inr (refl, refl)))
kinds_ordered (suc (suc zero)) (suc zero) _ _ = inr (inr (inl (refl, inr refl)))
kinds_ordered (suc (suc zero)) (suc (suc zero)) _ _ = inr (inl refl)
kinds_ordered (suc (suc (suc m))) n low _ = absurd (omega (arith, low))
kinds_ordered zero (suc (suc (suc n))) _ low = absurd (omega (arith, low))
kinds_ordered (suc zero) (suc (suc (suc n))) _ low = absurd (omega (arith, low))
kinds_ordered (suc (suc zero)) (suc (suc (suc n))) _ low = absurd (omega (arith, low))

kind_once : (m n : ℕ) → m ≡ n → IsKindBefore m n → ⊥
kind_once m n same before = ⊎_elim
    (λ (h : (m ≡ 1) × ((n ≡ 0) ⊎ (n ≡ 2))). ⊎_elim
    (λ (z : n ≡ 0). absurd (omega (arith, same, h.0, z)))
    (λ (z : n ≡ 2). absurd (omega (arith, same, h.0, z)))
    h.1)
    (λ (h : (m ≡ 0) × (n ≡ 2)). absurd (omega (arith, same, h.0, h.1)))
    before

pub alike_sym : (x y : Step) → IsAlikeStep base x y → IsAlikeStep base y x
alike_sym wait wait alike = tt
alike_sym wait (drive y) alike = absurd alike
alike_sym (drive x) wait alike = absurd alike
alike_sym (drive x) (drive y) alike = (sym alike.0, sym alike.1)

pub alike_on : (x y z : Step) → IsAlikeStep base x y → IsAlikeStep base y z → IsAlikeStep base x z
alike_on wait wait z one two = two
alike_on wait (drive y) z one two = absurd one
alike_on (drive x) wait z one two = absurd one
alike_on (drive x) (drive y) wait one two = absurd two
alike_on (drive x) (drive y) (drive z) one two = (one.0 ∙ two.0, one.1 ∙ two.1)

-- no step comes before one that is alike
pub not_before : (x y : Step) → IsAlikeStep base x y → IsRuledStepBefore base x y → ⊥
not_before wait wait alike before = before
not_before wait (drive y) alike before = absurd alike
not_before (drive x) wait alike before = absurd alike
not_before (drive x) (drive y) alike before = ⊎_elim
    (λ (kind : IsKindBefore (x % 3) (y % 3)). kind_once (x % 3) (y % 3) alike.0 kind)
    (λ (h : (x % 3 ≡ y % 3) × (x / 3 % base < y / 3 % base)). absurd (omega (arith, alike.1, h.1)))
    before

-- what comes before a step comes before each that is alike
pub before_alike : (x y z : Step) → IsRuledStepBefore base x y → IsAlikeStep base y z → IsRuledStepBefore base x z
before_alike wait wait z before alike = absurd before
before_alike wait (drive y) wait before alike = absurd alike
before_alike wait (drive y) (drive z) before alike = tt
before_alike (drive x) wait z before alike = absurd before
before_alike (drive x) (drive y) wait before alike = absurd alike
before_alike (drive x) (drive y) (drive z) before alike = ⊎_elim
    (λ (kind : IsKindBefore (x % 3) (y % 3)). inl (subst (λ n. IsKindBefore (x % 3) n) alike.0 kind))
    (λ (h : (x % 3 ≡ y % 3) × (x / 3 % base < y / 3 % base)). inr (h.0 ∙ alike.0, omega (arith, h.1, alike.1)))
    before

-- a walk to a smaller state comes before
pub smaller_before : (j k : ℕ) (xs ys : List Step) → j < k → ComesRuledBefore base j xs k ys
smaller_before j k [] ys less = less
smaller_before j k (x ∷ xs) [] less = less
smaller_before j k (x ∷ xs) (y ∷ ys) less = inl less

alike_push : (xs ys : List Step) (x y : Step) → AreAlikeSteps base xs ys → IsAlikeStep base x y → AreAlikeSteps base (xs ++ x ∷ []) (ys ++ y ∷ [])
alike_push [] [] x y all one = (one, tt)
alike_push [] (z ∷ ys) x y all one = absurd all
alike_push (z ∷ xs) [] x y all one = absurd all
alike_push (w ∷ xs) (z ∷ ys) x y all one = (all.0, alike_push xs ys x y all.1 one)

pub reverse_first : (x : Step) (xs : List Step) → reverse (x ∷ xs) ≡ reverse xs ++ x ∷ []
reverse_first x xs = reverse-append (x ∷ []) xs

pub alike_reverse : (xs ys : List Step) → AreAlikeSteps base xs ys → AreAlikeSteps base (reverse xs) (reverse ys)
alike_reverse [] [] all = tt
alike_reverse [] (y ∷ ys) all = absurd all
alike_reverse (x ∷ xs) [] all = absurd all
alike_reverse (x ∷ xs) (y ∷ ys) all =
    subst (λ w. AreAlikeSteps base w (reverse (y ∷ ys))) (sym (reverse_first x xs))
    (subst (λ w. AreAlikeSteps base (reverse xs ++ x ∷ []) w) (sym (reverse_first y ys))
    (alike_push (reverse xs) (reverse ys) x y (alike_reverse xs ys all.1) all.0))
