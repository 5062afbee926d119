-- Legs over layers, one by one.
use Rattle.std.proofs.Common.{◌≡◌, ◌≢◌, ℕ, zero, suc, ◌+◌, ◌-◌, ◌*◌, ◌%◌, Bool, true, false, nat_le, if◌then◌else◌, List, [], ◌∷◌, ◌++◌, map, replicate, refl}
use Rattle.std.proofs.Common.{sym, ◌∙◌, ap}
use Rattle.std.proofs.lemmas.List.{map-append}
use Rattle.route_base.specs.Itinerary.{drive, wait}
use Rattle.route_base.specs.Legs.{steps_of, steps_of_leg, HasNoEmptyWait, HasNoNeighbouringWaits, DrivesFirst}
use Rattle.route_base.specs.declared.types.ArcId.{ArcId}
use Rattle.route_base.specs.declared.types.Leg.{Leg}
use Rattle.route_base.specs.declared.types.Leg.TheVariants.{Drive, Wait}
use Rattle.stop_tour.specs.Tours.{TourStep, go, serve, tour_steps_of, tour_steps_of_leg, HasNoEmptyTourWait, HasNoNeighbouringTourWaits, StartsWithoutWait}
use Rattle.stop_tour.specs.Inside.Unlayering.{step_over, leg_over}
use Rattle.stop_tour.specs.declared.stops.TourLeg.{TourLeg}
use Rattle.stop_tour.specs.declared.stops.TourLeg.TheVariants.{Drive as TourDrive, Wait as TourWait, Serve}

either_leg : Bool → ArcId → ℕ → TourLeg
either_leg b a i = if b then TourDrive a else Serve i

either_steps : (b : Bool) (a : ArcId) (i : ℕ) → tour_steps_of_leg (either_leg b a i) ≡ (if b then go (drive a.0) else serve i) ∷ []
unfolding either_leg
either_steps true a i = refl
either_steps false a i = refl

either_no_wait : (b : Bool) (a : ArcId) (i k : ℕ) → either_leg b a i ≢ TourWait k
unfolding either_leg
either_no_wait true a i k = λ is. cc
either_no_wait false a i k = λ is. cc

either_apart : (b : Bool) (a : ArcId) (i : ℕ) (legs : List TourLeg) → HasNoNeighbouringTourWaits legs → HasNoNeighbouringTourWaits (either_leg b a i ∷ legs)
unfolding either_leg
either_apart true a i legs apart = apart
either_apart false a i legs apart = apart

module _ (arcs layers : ℕ) where
  waits_over : (k : ℕ) → replicate k (go wait) ≡ map (step_over arcs layers) (replicate k wait)
  waits_over zero = refl
  waits_over (suc k) = ap (λ (w : List TourStep). go wait ∷ w) (waits_over k)

  leg_steps : (leg : Leg) → tour_steps_of_leg (leg_over arcs layers leg) ≡ map (step_over arcs layers) (steps_of_leg leg)
  unfolding either_leg
  leg_steps (Drive x) = either_steps (nat_le x.0 (layers * arcs)) (record { 0 = (x.0 - 1) % arcs + 1 }) (x.0 - layers * arcs)
  leg_steps (Wait k) = waits_over k

  pub steps_over : (legs : List Leg) → tour_steps_of (map (leg_over arcs layers) legs) ≡ map (step_over arcs layers) (steps_of legs)
  steps_over [] = refl
  steps_over (leg ∷ legs) =
      ap (λ (w : List TourStep). w ++ tour_steps_of (map (leg_over arcs layers) legs)) (leg_steps leg)
      ∙ ap (λ (w : List TourStep). map (step_over arcs layers) (steps_of_leg leg) ++ w) (steps_over legs)
      ∙ sym (map-append (step_over arcs layers) (steps_of_leg leg) (steps_of legs))

  no_wait_0 : (k : ℕ) → Wait k ≢ Wait 0 → TourWait k ≢ TourWait 0
  no_wait_0 k other = λ is. other (ap (λ (n : ℕ). Wait n) (number is))
    where
      number : TourWait k ≡ TourWait 0 → k ≡ 0
      number same = cc

  pub no_empty_over : (legs : List Leg) → HasNoEmptyWait legs → HasNoEmptyTourWait (map (leg_over arcs layers) legs)
  unfolding either_leg
  no_empty_over [] none = tt
  no_empty_over (Drive x ∷ legs) none =
      (either_no_wait (nat_le x.0 (layers * arcs)) (record { 0 = (x.0 - 1) % arcs + 1 }) (x.0 - layers * arcs) 0, no_empty_over legs none.1)
  no_empty_over (Wait k ∷ legs) none = (no_wait_0 k none.0, no_empty_over legs none.1)

  later_over : (legs : List Leg) → DrivesFirst legs → StartsWithoutWait (map (leg_over arcs layers) legs)
  unfolding either_leg
  later_over [] later = tt
  later_over (Drive x ∷ legs) later = λ k. either_no_wait (nat_le x.0 (layers * arcs)) (record { 0 = (x.0 - 1) % arcs + 1 }) (x.0 - layers * arcs) k
  later_over (Wait k ∷ legs) later = absurd (later k refl)

  pub apart_over : (legs : List Leg) → HasNoNeighbouringWaits legs → HasNoNeighbouringTourWaits (map (leg_over arcs layers) legs)
  unfolding either_leg
  apart_over [] apart = tt
  apart_over (Drive x ∷ legs) apart = either_apart (nat_le x.0 (layers * arcs)) (record { 0 = (x.0 - 1) % arcs + 1 }) (x.0 - layers * arcs)
      (map (leg_over arcs layers) legs) (apart_over legs apart)
  apart_over (Wait k ∷ legs) apart = (later_over legs apart.0, apart_over legs apart.1)
