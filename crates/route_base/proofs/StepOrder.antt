-- The order of steps, and of lists of them.
use Rattle.std.proofs.Common.{◌≡◌, ◌⊎◌, inl, inr, ⊎_elim, ◌<◌, List, [], ◌∷◌, ◌++◌, refl, ap, subst, arith}
use Rattle.std.proofs.lemmas.Bool.{cases_order}
use Rattle.route_base.specs.Itinerary.{Step, drive, wait}
use Rattle.route_base.specs.FirstItinerary.{IsStepBefore, ComesBefore}

pub step_order : (x y : Step) → (x ≡ y) ⊎ (IsStepBefore x y ⊎ IsStepBefore y x)
step_order wait wait = inl refl
step_order wait (drive b) = inr (inl tt)
step_order (drive a) wait = inr (inr tt)
step_order (drive a) (drive b) = ⊎_elim
    (λ (same : a ≡ b). inl (ap (λ n. drive n) same))
    (λ (other : (a < b) ⊎ (b < a)). inr other)
    (cases_order a b)

-- no step comes before a wait
pub none_before_wait : (y : Step) → IsStepBefore y wait → ⊥
none_before_wait wait h = h
none_before_wait (drive b) h = h

pub not_before_itself : (x : Step) → IsStepBefore x x → ⊥
not_before_itself wait h = h
not_before_itself (drive a) h = omega (arith, h)

-- of two steps at most one comes before the other
pub never_both_steps : (x y : Step) → IsStepBefore x y → IsStepBefore y x → ⊥
never_both_steps wait wait h k = h
never_both_steps wait (drive b) h k = k
never_both_steps (drive a) wait h k = h
never_both_steps (drive a) (drive b) h k = omega (arith, h, k)

-- of two lists at most one comes before the other
pub never_both : (xs ys : List Step) → ComesBefore xs ys → ComesBefore ys xs → ⊥
never_both [] ys h k = h
never_both (x ∷ xs) [] h k = h
never_both (x ∷ xs) (y ∷ ys) (inl h) (inl k) = never_both_steps x y h k
never_both (x ∷ xs) (y ∷ ys) (inl h) (inr k) = not_before_itself x (subst (λ w. IsStepBefore x w) k.0 h)
never_both (x ∷ xs) (y ∷ ys) (inr h) (inl k) = not_before_itself y (subst (λ w. IsStepBefore y w) h.0 k)
never_both (x ∷ xs) (y ∷ ys) (inr h) (inr k) = never_both xs ys h.1 k.1

-- what comes before a list still does with more behind it
pub before_longer : (xs ys zs : List Step) → ComesBefore xs ys → ComesBefore (xs ++ zs) ys
before_longer [] ys zs h = absurd h
before_longer (x ∷ xs) [] zs h = absurd h
before_longer (x ∷ xs) (y ∷ ys) zs (inl h) = inl h
before_longer (x ∷ xs) (y ∷ ys) zs (inr h) = inr (h.0, before_longer xs ys zs h.1)

-- lists that begin alike and go on by different steps
pub before_at : (zs xs ys : List Step) (x y : Step) → IsStepBefore x y → ComesBefore (zs ++ x ∷ xs) (zs ++ y ∷ ys)
before_at [] xs ys x y h = inl h
before_at (z ∷ zs) xs ys x y h = inr (refl, before_at zs xs ys x y h)
