-- Rested tours without stops are rested trips.
use Rattle.std.proofs.Common.{◌≡◌, inl, inr, ⊎_elim, ℕ, Option, List, [], ◌∷◌, ◌++◌, map, replicate, refl, sym, ◌∙◌, ap, subst}
use Rattle.std.specs.Prelude.{◌↔◌, All, reverse}
use Rattle.std.specs.List.{AllZip}
use Rattle.std.proofs.lemmas.List.{map-append}
use Rattle.std.proofs.lemmas.List.Elements.{All-head, All-tail, All-cons, All-nil}
use Rattle.route_base.specs.FirstItinerary.{IsStepBefore}
use Rattle.route_base.specs.Setting.{Road, Setting}
use Rattle.route_base.specs.Itinerary.{Step, drive, wait, Walks}
use Rattle.route_base.specs.Front.{IsNoWorse, pairs_of}
use Rattle.route_base.specs.Legs.{start_of, end_of, steps_of, DrivesFirst, HasNoEmptyWait, HasNoNeighbouringWaits}
use Rattle.route_base.specs.declared.types.Leg.{Leg}
use Rattle.route_base.specs.declared.types.Leg.TheVariants.{Drive, Wait}
use Rattle.route_base.specs.declared.types.Pair.{Pair}
use Rattle.route_base.specs.declared.types.Request.{Request}
use Rattle.route_base.specs.declared.types.Route.{Route}
use Rattle.route_base.proofs.Numbered.{no_number}
use Rattle.front_transport.specs.ParetoFronts.{ArrivesBefore}
use Rattle.front_transport.proofs.SameFronts.{same_front}
use Rattle.drive_breaks.specs.Rested.{IsRestedFrom, IsRestedAchieved, IsRestedFront, AchievesRested, AreRightRested}
use Rattle.drive_breaks.specs.RestedOrder.{ComesRestedBefore, IsAsDriven, IsFirstRested, IsLessDriven}
use Rattle.drive_states.specs.declared.rule.BreakRule.{BreakRule}
use Rattle.stop_tour.specs.Tours.{TourPosition, TourStep, go, serve, TourWalks, tour_start, tour_end, tour_steps_of, HasNoEmptyTourWait, StartsWithoutWait, HasNoNeighbouringTourWaits}
use Rattle.stop_tour.specs.declared.stops.TourLeg.{TourLeg}
use Rattle.stop_tour.specs.declared.stops.TourLeg.TheVariants.{Drive as TourDrive, Wait as TourWait, Serve as TourServe}
use Rattle.stop_tour.specs.declared.stops.TourRoute.{TourRoute}
use Rattle.stop_tour.proofs.FirstOverLayers.{map_reversed}
use Rattle.rested_tours.specs.RestedTours.{seen, IsRestedTour, IsRestedTourAchieved, IsRestedTourFront, AchievesRestedTour, AreRightRestedTours, ComesRestedTourBefore, IsFirstRestedTour}
use Rattle.rested_tours.specs.Inside.ToldLegs.{as_tour_leg, IsNoService, IsTripOf}
use Rattle.rested_tours.proofs.Reading.{going_waits}
use Rattle.rested_tours.proofs.TourWalking.{goes, seen_goes, tour_parts}

module _ (s : Setting) (until : ℕ) where
  -- no stop is served
  unserved : (xs : List TourStep) (p q : TourPosition) → TourWalks s [] until xs p q → (ys : List Step) × (xs ≡ map go ys)
  unserved [] p q walk = ([], refl)
  unserved (go x ∷ xs) p q walk = let more = unserved xs walk.0 q walk.2 in (x ∷ more.0, ap (λ (w : List TourStep). go x ∷ w) more.1)
  unserved (serve i ∷ xs) p q walk = absurd (no_number i walk.1.stop walk.1.is)

  -- the same steps are an itinerary
  went : (xs : List Step) (p q : TourPosition) → TourWalks s [] until (map go xs) p q → Walks s until xs p.at q.at
  went [] p q walk = ap (λ (w : TourPosition). w.at) walk
  went (x ∷ xs) p q walk = (walk.0.at, walk.1.0, went xs walk.0 q walk.2)

  no_services : (legs : List TourLeg) (p q : TourPosition) → TourWalks s [] until (tour_steps_of legs) p q → All IsNoService legs
  no_services [] p q walk = All-nil IsNoService
  no_services (TourDrive a ∷ legs) p q walk = All-cons IsNoService (TourDrive a) legs tt (no_services legs walk.0 q walk.2)
  no_services (TourWait k ∷ legs) p q walk =
      let after = tour_parts s [] until (replicate k (go wait)) (tour_steps_of legs) p q walk in
      All-cons IsNoService (TourWait k) legs tt (no_services legs after.0 q after.2)
  no_services (TourServe i ∷ legs) p q walk = absurd (no_number i walk.1.stop walk.1.is)

-- legs of a trip as those of a tour
tour_steps : (legs : List Leg) → tour_steps_of (map as_tour_leg legs) ≡ map go (steps_of legs)
tour_steps [] = refl
tour_steps (Drive a ∷ legs) = ap (λ (w : List TourStep). go (drive a.0) ∷ w) (tour_steps legs)
tour_steps (Wait k ∷ legs) =
    ap (λ (w : List TourStep). w ++ tour_steps_of (map as_tour_leg legs)) (sym (going_waits k))
    ∙ ap (λ (w : List TourStep). map go (replicate k wait) ++ w) (tour_steps legs)
    ∙ sym (map-append go (replicate k wait) (steps_of legs))

-- a wait of a tour is that of a trip
same_wait : (leg : Leg) (k : ℕ) → as_tour_leg leg ≡ TourWait k → leg ≡ Wait k
same_wait (Drive a) k same = absurd (cc)
same_wait (Wait n) k same = cc

empty_wait : (legs : List Leg) → HasNoEmptyTourWait (map as_tour_leg legs) → HasNoEmptyWait legs
empty_wait [] none = tt
empty_wait (leg ∷ legs) none = (λ same. none.0 (ap as_tour_leg same), empty_wait legs none.1)

tour_empty_wait : (legs : List Leg) → HasNoEmptyWait legs → HasNoEmptyTourWait (map as_tour_leg legs)
tour_empty_wait [] none = tt
tour_empty_wait (leg ∷ legs) none = (λ same. none.0 (same_wait leg 0 same), tour_empty_wait legs none.1)

drives_first : (legs : List Leg) → StartsWithoutWait (map as_tour_leg legs) → DrivesFirst legs
drives_first [] none = tt
drives_first (leg ∷ legs) none = λ k same. none k (ap as_tour_leg same)

starts_so : (legs : List Leg) → DrivesFirst legs → StartsWithoutWait (map as_tour_leg legs)
starts_so [] none = tt
starts_so (leg ∷ legs) none = λ k same. none k (same_wait leg k same)

apart : (legs : List Leg) → HasNoNeighbouringTourWaits (map as_tour_leg legs) → HasNoNeighbouringWaits legs
apart [] none = tt
apart (Drive a ∷ legs) none = apart legs none
apart (Wait k ∷ legs) none = (drives_first legs none.0, apart legs none.1)

tour_apart : (legs : List Leg) → HasNoNeighbouringWaits legs → HasNoNeighbouringTourWaits (map as_tour_leg legs)
tour_apart [] none = tt
tour_apart (Drive a ∷ legs) none = tour_apart legs none
tour_apart (Wait k ∷ legs) none = (starts_so legs none.0, tour_apart legs none.1)

-- the order of tours without services is that of trips
went_before : (roads : ℕ → Option Road) (rest : ℕ) (xs ys : List Step) → ComesRestedTourBefore roads rest (map go xs) (map go ys)
    → ComesRestedBefore roads rest xs ys
went_before roads rest [] ys before = absurd before
went_before roads rest (x ∷ xs) [] before = absurd before
went_before roads rest (x ∷ xs) (y ∷ ys) (inl less) =
    inl (subst (λ (w : List Step). IsLessDriven roads rest (x ∷ xs) w) (seen_goes (y ∷ ys))
    (subst (λ (w : List Step). IsLessDriven roads rest w (map seen (map go (y ∷ ys)))) (seen_goes (x ∷ xs)) less))
went_before roads rest (x ∷ xs) (y ∷ ys) (inr (even, next)) =
    inr (
      subst (λ (w : List Step). IsAsDriven roads rest (x ∷ xs) w) (seen_goes (y ∷ ys))
          (subst (λ (w : List Step). IsAsDriven roads rest w (map seen (map go (y ∷ ys)))) (seen_goes (x ∷ xs)) even),
      ⊎_elim
          (λ (step : IsStepBefore x y). inl step)
          (λ (more : (go x ≡ go y) × ComesRestedTourBefore roads rest (map go xs) (map go ys)).
          inr (ap seen more.0, went_before roads rest xs ys more.1))
          next,
    )

module _ (s : Setting) (r : Request) (rule : BreakRule) where
  -- what the rule sees of the steps of a trip
  rested_steps : (xs : List TourStep) (ys : List Step) → xs ≡ map go ys → IsRestedTour s.road rule xs → IsRestedFrom s.road rule [] ys
  rested_steps xs ys same rested = subst (IsRestedFrom s.road rule []) (ap (map seen) same ∙ seen_goes ys) rested

  tour_rested : (xs : List TourStep) (ys : List Step) → xs ≡ map go ys → IsRestedFrom s.road rule [] ys → IsRestedTour s.road rule xs
  tour_rested xs ys same rested = subst (IsRestedFrom s.road rule []) (sym (ap (map seen) same ∙ seen_goes ys)) rested

  as_trip : (p : Pair) → IsRestedTourAchieved s r [] rule p → IsRestedAchieved s r rule p
  as_trip p can =
      let steps = unserved s r.until can.steps (tour_start r) (tour_end r 0 p) can.walk in
      record {
        in_time = can.in_time;
        steps = steps.0;
        walk = went s r.until steps.0 (tour_start r) (tour_end r 0 p)
            (subst (λ (w : List TourStep). TourWalks s [] r.until w (tour_start r) (tour_end r 0 p)) steps.1 can.walk);
        rested = rested_steps can.steps steps.0 steps.1 can.rested;
      }

  as_tour : (p : Pair) → IsRestedAchieved s r rule p → IsRestedTourAchieved s r [] rule p
  as_tour p can = record {
    in_time = can.in_time;
    steps = map go can.steps;
    walk = goes s [] r.until can.steps (start_of r) (end_of r p) 0 can.walk;
    rested = tour_rested (map go can.steps) can.steps refl can.rested;
  }

  -- the fronts of both are one
  pub no_stops_front : (pairs : List Pair) → IsRestedTourFront s r [] rule pairs ↔ IsRestedFront s r rule pairs
  no_stops_front pairs = (
    same_front IsNoWorse ArrivesBefore (IsRestedTourAchieved s r [] rule) (IsRestedAchieved s r rule) as_trip as_tour pairs,
    same_front IsNoWorse ArrivesBefore (IsRestedAchieved s r rule) (IsRestedTourAchieved s r [] rule) as_tour as_trip pairs,
  )

  trip_legs : (pair : Pair) (legs : List Leg) → AchievesRestedTour s r [] rule (record { pair = pair; legs = map as_tour_leg legs })
      → AchievesRested s r rule (record { pair = pair; legs = legs })
  trip_legs pair legs can = record {
    achieves = record {
      in_time = can.achieves.in_time;
      no_empty_wait = empty_wait legs can.achieves.no_empty_wait;
      walk = went s r.until (steps_of legs) (tour_start r) (tour_end r 0 pair)
          (subst (λ (w : List TourStep). TourWalks s [] r.until w (tour_start r) (tour_end r 0 pair)) (tour_steps legs) can.achieves.walk);
    };
    rested = rested_steps (tour_steps_of (map as_tour_leg legs)) (steps_of legs) (tour_steps legs) can.rested;
    apart = apart legs can.achieves.apart;
  }

  tour_legs : (pair : Pair) (legs : List Leg) → AchievesRested s r rule (record { pair = pair; legs = legs })
      → AchievesRestedTour s r [] rule (record { pair = pair; legs = map as_tour_leg legs })
  tour_legs pair legs can = record {
    achieves = record {
      in_time = can.achieves.in_time;
      no_empty_wait = tour_empty_wait legs can.achieves.no_empty_wait;
      walk = subst (λ (w : List TourStep). TourWalks s [] r.until w (tour_start r) (tour_end r 0 pair)) (sym (tour_steps legs))
          (goes s [] r.until (steps_of legs) (start_of r) (end_of r pair) 0 can.achieves.walk);
      apart = tour_apart legs can.apart;
    };
    rested = tour_rested (tour_steps_of (map as_tour_leg legs)) (steps_of legs) (tour_steps legs) can.rested;
  }

  pub no_stops_legs : (pair : Pair) (legs : List Leg) → AchievesRestedTour s r [] rule (record { pair = pair; legs = map as_tour_leg legs })
      ↔ AchievesRested s r rule (record { pair = pair; legs = legs })
  no_stops_legs pair legs = (trip_legs pair legs, tour_legs pair legs)

  -- tours without stops serve none
  pub none_served : (tours : List TourRoute) → All (AchievesRestedTour s r [] rule) tours → All (λ tour. All IsNoService tour.legs) tours
  none_served tours can k d less =
      let one = can k d less in
      no_services s r.until _ _ _ one.achieves.walk

  right_pairs : (tours : List TourRoute) (routes : List Route) → AllZip IsTripOf tours routes → map (λ (x : TourRoute). x.pair) tours ≡ pairs_of routes
  right_pairs [] [] alike = refl
  right_pairs [] (route ∷ routes) alike = absurd alike
  right_pairs (tour ∷ tours) [] alike = absurd alike
  right_pairs (tour ∷ tours) (route ∷ routes) alike =
      ap (λ (w : Pair). w ∷ map (λ (x : TourRoute). x.pair) tours) (sym alike.0.pair)
      ∙ ap (λ (w : List Pair). route.pair ∷ w) (right_pairs tours routes alike.1)

  right_legs : (tours : List TourRoute) (routes : List Route) → AllZip IsTripOf tours routes → All (AchievesRestedTour s r [] rule) tours
      → All (AchievesRested s r rule) routes
  right_legs [] [] alike can = All-nil (AchievesRested s r rule)
  right_legs [] (route ∷ routes) alike can = absurd alike
  right_legs (tour ∷ tours) [] alike can = absurd alike
  right_legs (tour ∷ tours) (route ∷ routes) alike can =
      All-cons (AchievesRested s r rule) route routes
      (trip_legs route.pair route.legs
      (subst (λ (w : List TourLeg). AchievesRestedTour s r [] rule (record { pair = route.pair; legs = w })) alike.0.legs
      (subst (λ (w : Pair). AchievesRestedTour s r [] rule (record { pair = w; legs = tour.legs })) (sym alike.0.pair)
      (All-head (AchievesRestedTour s r [] rule) tour tours can))))
      (right_legs tours routes alike.1 (All-tail (AchievesRestedTour s r [] rule) tour tours can))

  -- the routes of right tours without stops are right
  pub right_trips : (tours : List TourRoute) (routes : List Route) → AllZip IsTripOf tours routes → AreRightRestedTours s r [] rule tours
      → AreRightRested s r rule routes
  right_trips tours routes alike right = record {
    front = (no_stops_front (pairs_of routes)).0 (subst (IsRestedTourFront s r [] rule) (right_pairs tours routes alike) right.front);
    legs = right_legs tours routes alike right.legs;
  }

  -- the first tour without stops is the first trip
  first_trip : (tour : TourRoute) (route : Route) → IsTripOf tour route → IsFirstRestedTour s r [] rule tour → IsFirstRested s r rule route
  first_trip tour route trip first steps walk rested =
      let told : tour_steps_of tour.legs ≡ map go (steps_of route.legs) = ap tour_steps_of trip.legs ∙ tour_steps route.legs in
      let turned : reverse (tour_steps_of tour.legs) ≡ map go (reverse (steps_of route.legs)) =
      ap reverse told ∙ sym (map_reversed go (steps_of route.legs)) in
      ⊎_elim
      (λ (same : map go steps ≡ tour_steps_of tour.legs).
      inl (sym (seen_goes steps) ∙ ap (map seen) (same ∙ told) ∙ seen_goes (steps_of route.legs)))
      (λ (before : ComesRestedTourBefore s.road rule.rest (reverse (tour_steps_of tour.legs)) (reverse (map go steps))).
      inr (went_before s.road rule.rest (reverse (steps_of route.legs)) (reverse steps)
      (subst (λ (w : List TourStep). ComesRestedTourBefore s.road rule.rest (map go (reverse (steps_of route.legs))) w) (sym (map_reversed go steps))
      (subst (λ (w : List TourStep). ComesRestedTourBefore s.road rule.rest w (reverse (map go steps))) turned before))))
      (first (map go steps)
      (subst (λ (w : Pair). TourWalks s [] r.until (map go steps) (tour_start r) (tour_end r 0 w)) trip.pair
      (goes s [] r.until steps (start_of r) (end_of r route.pair) 0 walk))
      (tour_rested (map go steps) steps refl rested))

  -- the routes of first tours without stops are first
  pub first_trips : (tours : List TourRoute) (routes : List Route) → AllZip IsTripOf tours routes → All (IsFirstRestedTour s r [] rule) tours
      → All (IsFirstRested s r rule) routes
  first_trips [] [] alike first = All-nil (IsFirstRested s r rule)
  first_trips [] (route ∷ routes) alike first = absurd alike
  first_trips (tour ∷ tours) [] alike first = absurd alike
  first_trips (tour ∷ tours) (route ∷ routes) alike first =
      All-cons (IsFirstRested s r rule) route routes (first_trip tour route alike.0 (All-head (IsFirstRestedTour s r [] rule) tour tours first))
      (first_trips tours routes alike.1 (All-tail (IsFirstRestedTour s r [] rule) tour tours first))
