-- The legs behind the gate.
use Rattle.std.proofs.Common.{◌≡◌, ℕ, zero, suc, List, [], ◌∷◌, ◌++◌, replicate, refl}
use Rattle.route_base.specs.Itinerary.{Step, wait}
use Rattle.route_base.specs.Legs.{steps_of, HasNoEmptyWait, HasNoNeighbouringWaits}
use Rattle.route_base.specs.declared.types.Leg.{Leg}
use Rattle.route_base.specs.declared.types.Leg.TheVariants.{Drive, Wait}
use Rattle.latest_departure.specs.Inside.Mirror.{after_gate}
use Rattle.latest_departure.proofs.Gate.{beyond}
use Rattle.tidy_legs.proofs.TurnedLegs.{apart_tail}

pub waits_beyond : (k : ℕ) (ys : List Step) → beyond (replicate k wait ++ ys) ≡ beyond ys
waits_beyond zero ys = refl
waits_beyond (suc k) ys = waits_beyond k ys

pub steps_after : (legs : List Leg) → HasNoNeighbouringWaits legs → beyond (steps_of legs) ≡ steps_of (after_gate legs)
steps_after [] apart = refl
steps_after (Drive a ∷ legs) apart = refl
steps_after (Wait k ∷ []) apart = waits_beyond k []
steps_after (Wait k ∷ Drive a ∷ legs) apart = waits_beyond k (steps_of (Drive a ∷ legs))
steps_after (Wait k ∷ Wait j ∷ legs) apart = absurd (apart.0 j refl)

pub no_empty_after : (legs : List Leg) → HasNoEmptyWait legs → HasNoEmptyWait (after_gate legs)
no_empty_after [] none = tt
no_empty_after (Drive a ∷ legs) none = none.1
no_empty_after (Wait k ∷ []) none = tt
no_empty_after (Wait k ∷ x ∷ legs) none = none.1.1

pub apart_after : (legs : List Leg) → HasNoNeighbouringWaits legs → HasNoNeighbouringWaits (after_gate legs)
apart_after [] apart = tt
apart_after (Drive a ∷ legs) apart = apart
apart_after (Wait k ∷ []) apart = tt
apart_after (Wait k ∷ x ∷ legs) apart = apart_tail x legs apart.1
