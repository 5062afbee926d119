-- Legs in the other order.
use Rattle.std.proofs.Common.{◌≡◌, ℕ, zero, suc, ◌+◌, List, [], ◌∷◌, ◌++◌, length, reverse, replicate, refl, sym, ◌∙◌, ap, subst, arith, append_assoc}
use Rattle.std.proofs.lemmas.List.{reverse-append, length-reverse}
use Rattle.std.proofs.lemmas.Grind.{replicate_next}
use Rattle.route_base.specs.Itinerary.{Step, wait}
use Rattle.route_base.specs.Legs.{steps_of, steps_of_leg, HasNoEmptyWait, HasNoNeighbouringWaits, DrivesFirst}
use Rattle.route_base.specs.declared.types.Leg.{Leg}
use Rattle.route_base.specs.declared.types.Leg.TheVariants.{Drive, Wait}
use Rattle.route_base.proofs.LegLists.{steps_of-push, no_empty-push}
use Rattle.tidy_legs.specs.Tidiness.{IsTidy}

reverse-cons : {A : Type 0} (x : A) (xs : List A) → reverse (x ∷ xs) ≡ reverse xs ++ x ∷ []
reverse-cons x xs = reverse-append (x ∷ []) xs

pub waits_reversed : (k : ℕ) → reverse (replicate k wait) ≡ replicate k wait
waits_reversed zero = refl
waits_reversed (suc k) =
    let next : k + 1 ≡ suc k = omega arith in
    reverse-cons wait (replicate k wait) ∙ ap (λ (w : List Step). w ++ wait ∷ []) (waits_reversed k)
    ∙ sym (replicate_next k wait) ∙ ap (λ (n : ℕ). replicate n wait) next

leg_reversed : (leg : Leg) → reverse (steps_of_leg leg) ≡ steps_of_leg leg
leg_reversed (Drive a) = refl
leg_reversed (Wait k) = waits_reversed k

-- the steps of legs in the other order are the steps in the other order
pub steps_reversed : (legs : List Leg) → steps_of (reverse legs) ≡ reverse (steps_of legs)
steps_reversed [] = refl
steps_reversed (leg ∷ legs) =
    ap steps_of (reverse-cons leg legs) ∙ steps_of-push (reverse legs) leg
    ∙ ap (λ (w : List Step). w ++ steps_of_leg leg) (steps_reversed legs)
    ∙ ap (λ (w : List Step). reverse (steps_of legs) ++ w) (sym (leg_reversed leg))
    ∙ sym (reverse-append (steps_of_leg leg) (steps_of legs))

pub no_empty_reversed : (legs : List Leg) → HasNoEmptyWait legs → HasNoEmptyWait (reverse legs)
no_empty_reversed [] none = tt
no_empty_reversed (leg ∷ legs) none = subst HasNoEmptyWait (sym (reverse-cons leg legs))
    (no_empty-push (reverse legs) leg none.0 (no_empty_reversed legs none.1))

-- two lists of legs that share one
drives_first-longer : (xs : List Leg) (y : Leg) (ys : List Leg) → DrivesFirst (xs ++ y ∷ []) → DrivesFirst (xs ++ y ∷ ys)
drives_first-longer [] y ys first = first
drives_first-longer (x ∷ xs) y ys first = first

joined : (xs : List Leg) (y : Leg) (ys : List Leg) → HasNoNeighbouringWaits (xs ++ y ∷ []) → HasNoNeighbouringWaits (y ∷ ys)
    → HasNoNeighbouringWaits (xs ++ y ∷ ys)
joined [] y ys left right = right
joined (Drive a ∷ xs) y ys left right = joined xs y ys left right
joined (Wait k ∷ xs) y ys left right = (drives_first-longer xs y ys left.0, joined xs y ys left.1 right)

two_turned : (x y : Leg) (ys : List Leg) → HasNoNeighbouringWaits (x ∷ y ∷ ys) → HasNoNeighbouringWaits (y ∷ x ∷ [])
two_turned (Drive a) (Drive b) ys apart = tt
two_turned (Drive a) (Wait k) ys apart = ((λ j same. cc), tt)
two_turned (Wait k) (Drive b) ys apart = (tt, tt)
two_turned (Wait k) (Wait j) ys apart = absurd (apart.0 j refl)

pub apart_tail : (x : Leg) (ys : List Leg) → HasNoNeighbouringWaits (x ∷ ys) → HasNoNeighbouringWaits ys
apart_tail (Drive a) ys apart = apart
apart_tail (Wait k) ys apart = apart.1

one_apart : (x : Leg) → HasNoNeighbouringWaits (x ∷ [])
one_apart (Drive a) = tt
one_apart (Wait k) = (tt, tt)

pub apart_reversed : (legs : List Leg) → HasNoNeighbouringWaits legs → HasNoNeighbouringWaits (reverse legs)
apart_reversed [] apart = tt
apart_reversed (x ∷ []) apart = one_apart x
apart_reversed (x ∷ y ∷ ys) apart =
    subst HasNoNeighbouringWaits
    (sym (reverse-cons x (y ∷ ys) ∙ ap (λ (w : List Leg). w ++ x ∷ []) (reverse-cons y ys) ∙ append_assoc (reverse ys) (y ∷ []) (x ∷ [])))
    (joined (reverse ys) y (x ∷ [])
    (subst HasNoNeighbouringWaits (reverse-cons y ys) (apart_reversed (y ∷ ys) (apart_tail x (y ∷ ys) apart)))
    (two_turned x y ys apart))

pub tidy_reversed : (legs : List Leg) → IsTidy legs → IsTidy (reverse legs)
tidy_reversed legs tidy = record {
  no_empty_wait = no_empty_reversed legs tidy.no_empty_wait;
  no_neighbours = apart_reversed legs tidy.no_neighbours;
}

-- a leg more at the end is one before the others
pub steps_before : (old new : List Leg) (leg : Leg) → steps_of new ≡ steps_of old ++ steps_of_leg leg
    → steps_of (reverse new) ≡ steps_of_leg leg ++ steps_of (reverse old)
steps_before old new leg is =
    steps_reversed new ∙ ap (λ (w : List Step). reverse w) is ∙ reverse-append (steps_of old) (steps_of_leg leg)
    ∙ ap (λ (w : List Step). w ++ reverse (steps_of old)) (leg_reversed leg)
    ∙ ap (λ (w : List Step). steps_of_leg leg ++ w) (sym (steps_reversed old))

pub length_reversed : (legs : List Leg) → length (steps_of (reverse legs)) ≡ length (steps_of legs)
length_reversed legs = ap (λ (w : List Step). length w) (steps_reversed legs) ∙ length-reverse (steps_of legs)
