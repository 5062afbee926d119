-- The front of the walks over the states of tours without a break rule is the front of tours, and the first walk tells the first tour.
use Rattle.std.proofs.Common.{◌≡◌, ◌⊎◌, inl, inr, ⊎_elim, ℕ, zero, suc, ◌/◌, ◌%◌, ◌≤◌, ◌<◌, ◌&&◌, eqb, true, Option, Some, None, List, [], ◌∷◌, ◌++◌, length, map, All, append-nil, refl, sym, ◌∙◌, ap, subst, arith}
use Rattle.std.specs.Prelude.{reverse}
use Rattle.std.specs.List.{AllZip}
use Rattle.std.proofs.lemmas.Bool.{and_from, and_parts, eqb-true, eq-eqb}
use Rattle.std.proofs.lemmas.List.{length-map}
use Rattle.std.proofs.lemmas.Nat.{div-mul-add, mod-mul-add, div-add-mod'}
use Rattle.route_base.specs.Setting.{Setting}
use Rattle.route_base.specs.Itinerary.{Step, drive, wait, Walks}
use Rattle.route_base.specs.Front.{IsNoWorse}
use Rattle.route_base.specs.Net.{Net, at_number, setting_of}
use Rattle.route_base.specs.declared.types.Bound.{Bound}
use Rattle.route_base.specs.declared.types.Pair.{Pair}
use Rattle.route_base.specs.declared.types.Request.{Request}
use Rattle.front_transport.specs.ParetoFronts.{IsParetoFront, ArrivesBefore}
use Rattle.front_transport.proofs.SameFronts.{same_front}
use Rattle.propagation.specs.Inside.Invariants.{point}
use Rattle.ruled_search.specs.Routes.{AreAlikeSteps, ComesRuledBefore, IsFirstRuled, IsPlanned}
use Rattle.ruled_search.specs.declared.routes.RuledRoute.{RuledRoute}
use Rattle.ruled_states.specs.Inside.Codes.{base as code_base}
use Rattle.state_dominance.specs.Inside.Dominance.{Task, IsAchievedIn}
use Rattle.state_dominance.specs.Inside.Product.{IsBase, code, task_over}
use Rattle.state_dominance.specs.NoRule.{no_rule}
use Rattle.state_dominance.specs.Serving.{joint, served_limit}
use Rattle.state_dominance.proofs.Served.{joint_served, joint_state}
use Rattle.stop_tour.specs.Tours.{TourPosition, TourStep, TourWalks, tour_start, tour_end, tour_steps_of, IsTourAchieved, IsTourFront, AchievesTour, TourComesBefore, IsFirstTour, AreRightTours}
use Rattle.stop_tour.specs.declared.stops.Stop.{Stop}
use Rattle.stop_tour.specs.declared.stops.TourRoute.{TourRoute}
use Rattle.stop_tour.proofs.FirstOverLayers.{map_reversed}
use Rattle.rested_tours.specs.Inside.PlainTours.{plain_ruler}
use Rattle.rested_tours.specs.Inside.ToldLegs.{told, IsLegNumbered}
use Rattle.rested_tours.specs.Inside.ToldRoutes.{IsTellableRoute, IsToldBy}
use Rattle.rested_tours.specs.Inside.TourRuler.{stop_service}
use Rattle.rested_tours.proofs.PlainOrder.{alike_tours, tour_before}
use Rattle.rested_tours.proofs.PlainWalks.{tell, tell_road, ArePlainSteps, ends_plain, plain_steps, tells_walk, told_walk}
use Rattle.rested_tours.proofs.Reading.{read_road, reads, reads_told}
use Rattle.rested_tours.proofs.ServingSteps.{tour_at}
use Rattle.rested_tours.proofs.StopsBase.{IsAsked, long_stops, low_origin, stops_base}
use Rattle.rested_tours.proofs.ToldRoutes.{told_pairs, zip_all}
use Rattle.rested_tours.proofs.ToldTours.{achieves_tour, tellable}
use Rattle.rested_tours.proofs.TourWalking.{same_spot}

module _ (s : Setting) (r : Request) (stops : List Stop) (base : ℕ) (bound : ℕ → ℕ → Option Bound)
    (long : (i : ℕ) (stop : Stop) → at_number stops i ≡ Some stop → 1 ≤ stop.service) (few : length stops < served_limit)
    (is_base : IsBase s (plain_ruler stops) base) (origin : r.origin.0 < base) (in_time : r.depart ≤ r.until) where
  -- the search over states
  abbrev pub task : Task
  task = task_over s (plain_ruler stops) base r.origin.0 r.goal.0 r.depart r.until bound

  few_services : length (map stop_service stops) < served_limit
  few_services = omega (arith, few, length-map stops stop_service)

  start_state : task.start.node / base ≡ joint 0 0
  start_state = div-mul-add (joint 0 0) base r.origin.0 origin

  none_first : task.start.node / base / served_limit ≡ 0
  none_first = ap (λ n. n / served_limit) start_state ∙ joint_state 0 0 (omega arith)

  at_start : tour_at base task.start ≡ tour_start r
  at_start = same_spot (tour_at base task.start) (tour_start r) (ap (λ n. point n r.depart 0) (mod-mul-add (joint 0 0) base r.origin.0 origin))
      (ap (λ n. n % served_limit) start_state ∙ joint_served 0 0 (omega arith))

  at_goal : (node : ℕ) (p : Pair) → task.goal node ≡ true → tour_at base (point node p.arrival p.cost) ≡ tour_end r (length stops) p
  at_goal node p goal =
      let count : ℕ = length (map stop_service stops) in
      let at = and_parts (eqb (node % base) r.goal.0) (eqb (node / base % served_limit) count && true) goal in
      let all = and_parts (eqb (node / base % served_limit) count) true at.1 in
      same_spot (tour_at base (point node p.arrival p.cost)) (tour_end r (length stops) p)
      (ap (λ n. point n p.arrival p.cost) (eqb-true (node % base) r.goal.0 at.0))
      (eqb-true (node / base % served_limit) count all.0 ∙ length-map stops stop_service)

  -- a walk over states to the goal tells a tour
  pub sound_walk : (node : ℕ) (xs : List Step) (p : Pair) → task.goal node ≡ true → Walks task.setting r.until xs task.start (point node p.arrival p.cost)
      → TourWalks s stops r.until (map (tell base) xs) (tour_start r) (tour_end r (length stops) p)
  sound_walk node xs p goal walk =
      subst (λ (w : TourPosition). TourWalks s stops r.until (map (tell base) xs) w (tour_end r (length stops) p)) at_start
      (subst (λ (w : TourPosition). TourWalks s stops r.until (map (tell base) xs) (tour_at base task.start) w) (at_goal node p goal)
      (tells_walk s stops base r.until is_base long few_services xs task.start (point node p.arrival p.cost) none_first walk))

  -- a tour is told by a walk over states to the goal
  record IsFound (ys : List TourStep) (p : Pair) : Type 0 where
    pub node : ℕ
    pub goal : task.goal node ≡ true
    pub steps : List Step
    pub tells : map (tell base) steps ≡ ys
    pub walk : Walks task.setting r.until steps task.start (point node p.arrival p.cost)

  found_walk : (ys : List TourStep) (p : Pair) → TourWalks s stops r.until ys (tour_start r) (tour_end r (length stops) p) → IsFound ys p
  found_walk ys p walk =
      let is = told_walk s stops base r.until is_base long few_services ys (tour_start r) (tour_end r (length stops) p) origin (omega arith) walk in
      let count : ℕ = length (map stop_service stops) in
      let state : ℕ = joint 0 (length stops) in
      let node : ℕ = code base r.goal.0 state in
      let whole : node / base ≡ state = div-mul-add state base r.goal.0 is.small in
      record {
        node = node;
        goal = and_from (eqb (node % base) r.goal.0) (eqb (node / base % served_limit) count && true)
            (eq-eqb (node % base) r.goal.0 (mod-mul-add state base r.goal.0 is.small))
            (and_from (eqb (node / base % served_limit) count) true
            (eq-eqb (node / base % served_limit) count
            (ap (λ n. n % served_limit) whole ∙ joint_served 0 (length stops) few ∙ sym (length-map stops stop_service))) refl);
        steps = is.steps;
        tells = is.tells;
        walk = is.walk;
      }

  sound : (p : Pair) → IsAchievedIn task p → IsTourAchieved s r stops p
  sound p can = record {
    in_time = in_time;
    steps = map (tell base) can.reached.0;
    walk = sound_walk can.node can.reached.0 p can.goal can.reached.1;
  }

  found : (p : Pair) → IsTourAchieved s r stops p → IsAchievedIn task p
  found p can =
      let is = found_walk can.steps p can.walk in
      record { node = is.node; goal = is.goal; reached = (is.steps, is.walk) }

  pub plain_front : (pairs : List Pair) → IsParetoFront IsNoWorse ArrivesBefore (IsAchievedIn task) pairs → IsTourFront s r stops pairs
  plain_front = same_front IsNoWorse ArrivesBefore (IsAchievedIn task) (IsTourAchieved s r stops) sound found

  -- a walk to the goal ends in the state of all stops
  end_state : (node : ℕ) (xs : List Step) (p : Pair) → task.goal node ≡ true → Walks task.setting r.until xs task.start (point node p.arrival p.cost)
      → node / base ≡ length stops
  end_state node xs p goal walk =
      omega (
        arith,
        div-add-mod' (node / base) served_limit,
        ends_plain s stops base r.until is_base long few_services xs task.start (point node p.arrival p.cost) none_first walk,
        ap (λ (w : TourPosition). w.served) (at_goal node p goal),
      )

  back_steps : (node : ℕ) (xs : List Step) (p : Pair) → Walks task.setting r.until xs task.start (point node p.arrival p.cost)
      → ArePlainSteps base (node / base) (reverse xs)
  back_steps node xs p walk = subst (ArePlainSteps base (node / base)) (append-nil (reverse xs))
      (plain_steps s stops base r.until is_base long few_services xs task.start (point node p.arrival p.cost) [] none_first tt walk)

  -- the first walk over states tells the first tour
  pub first_walk : (route : RuledRoute) (f : IsFirstRuled task base route) (ys : List TourStep)
      → TourWalks s stops r.until ys (tour_start r) (tour_end r (length stops) route.pair)
      → (ys ≡ map (tell base) f.achieves.steps) ⊎ TourComesBefore (reverse (map (tell base) f.achieves.steps)) (reverse ys)
  first_walk route f ys walk =
      let xs : List Step = f.achieves.steps in
      let is = found_walk ys route.pair walk in
      let same : f.achieves.node / base ≡ is.node / base =
      end_state f.achieves.node xs route.pair f.achieves.goal f.achieves.walk ∙ sym (end_state is.node is.steps route.pair is.goal is.walk) in
      ⊎_elim
      (λ (alike : AreAlikeSteps base xs is.steps). inl (sym is.tells ∙ sym (alike_tours base xs is.steps alike)))
      (λ (before : ComesRuledBefore base (f.achieves.node / base) (reverse xs) (is.node / base) (reverse is.steps)).
      inr (subst (λ (w : List TourStep). TourComesBefore (reverse (map (tell base) xs)) (reverse w)) is.tells
      (subst (λ (w : List TourStep). TourComesBefore (reverse (map (tell base) xs)) w) (map_reversed (tell base) is.steps)
      (subst (λ (w : List TourStep). TourComesBefore w (map (tell base) (reverse is.steps))) (map_reversed (tell base) xs)
      (tour_before base (reverse xs) (reverse is.steps) (f.achieves.node / base) (is.node / base) same
      (back_steps f.achieves.node xs route.pair f.achieves.walk) (back_steps is.node is.steps route.pair is.walk) before)))))
      (f.first is.node is.steps is.goal is.walk)

read_tells : (n a : ℕ) → read_road 1 n a ≡ tell_road n a ∷ []
read_tells zero a = refl
read_tells (suc zero) a = refl
read_tells (suc (suc n)) a = refl

-- where a rest takes a minute, the steps that are read off a walk are those that it tells
reads_tells : (base : ℕ) (xs : List Step) → reads 1 base xs ≡ map (tell base) xs
reads_tells base [] = refl
reads_tells base (drive x ∷ xs) =
    ap (λ (w : List TourStep). w ++ reads 1 base xs) (read_tells (x % 3) (x / 3 % base))
    ∙ ap (λ (w : List TourStep). tell base (drive x) ∷ w) (reads_tells base xs)
reads_tells base (wait ∷ xs) = ap (λ (w : List TourStep). tell base wait ∷ w) (reads_tells base xs)

module _ (net : Net) (r : Request) (stops : List Stop) (asked : IsAsked net r stops) where
  pub plain_base : IsBase (setting_of net) (plain_ruler stops) code_base
  plain_base = stops_base net r stops asked no_rule (λ i minutes is. (let bad : None ≡ Some minutes = is in absurd (cc)))

  module _ (routes : List RuledRoute) (planned : IsPlanned (setting_of net) (plain_ruler stops) code_base r routes) where
    -- the first walk of a pair that was planned
    abbrev IsPlannedFirst : RuledRoute → Type 0
    IsPlannedFirst = IsFirstRuled
        (task (setting_of net) r stops code_base planned.bound (long_stops net r stops asked) asked.count plain_base (low_origin net r stops asked) asked.in_time)
        code_base

    legs_tell : (route : RuledRoute) (f : IsPlannedFirst route) → All IsLegNumbered route.legs.items
        → map (tell code_base) f.achieves.steps ≡ told 1 route.legs.items
    legs_tell route f numbered = sym (reads_tells code_base f.achieves.steps) ∙ reads_told 1 route.legs.items f.achieves.steps numbered f.achieves.tells

    walk_told : (route : RuledRoute) (f : IsPlannedFirst route) → All IsLegNumbered route.legs.items
        → TourWalks (setting_of net) stops r.until (told 1 route.legs.items) (tour_start r) (tour_end r (length stops) route.pair)
    walk_told route f numbered =
        subst (λ (w : List TourStep). TourWalks (setting_of net) stops r.until w (tour_start r) (tour_end r (length stops) route.pair))
        (legs_tell route f numbered)
        (sound_walk (setting_of net) r stops code_base planned.bound (long_stops net r stops asked) asked.count plain_base
        (low_origin net r stops asked) asked.in_time f.achieves.node f.achieves.steps route.pair f.achieves.goal f.achieves.walk)

    is_tellable : (route : RuledRoute) → IsPlannedFirst route → IsTellableRoute 1 route
    is_tellable route f numbered = tellable net r stops asked 1 route (walk_told route f numbered) (omega arith)

    pub are_tellable : All (IsTellableRoute 1) routes
    are_tellable k d less = is_tellable _ (planned.first k d less)

    tour_legs : (route : RuledRoute) (tour : TourRoute) → IsToldBy 1 route tour → IsPlannedFirst route → AchievesTour (setting_of net) r stops tour
    tour_legs route tour tells f = achieves_tour net r stops asked 1 route (walk_told route f tells.numbered) tour tells

    first_tour : (route : RuledRoute) (tour : TourRoute) → IsToldBy 1 route tour → IsPlannedFirst route → IsFirstTour (setting_of net) r stops tour
    first_tour route tour tells f ys walk =
        let same : map (tell code_base) f.achieves.steps ≡ tour_steps_of tour.legs =
        legs_tell route f tells.numbered ∙ sym tells.legs.steps in
        subst (λ (w : List TourStep). (ys ≡ w) ⊎ TourComesBefore (reverse w) (reverse ys)) same
        (first_walk (setting_of net) r stops code_base planned.bound (long_stops net r stops asked) asked.count plain_base
        (low_origin net r stops asked) asked.in_time route f ys
        (subst (λ (w : Pair). TourWalks (setting_of net) stops r.until ys (tour_start r) (tour_end r (length stops) w)) tells.pair walk))

    pub right_tours : (tours : List TourRoute) → AllZip (IsToldBy 1) routes tours → AreRightTours (setting_of net) r stops tours
    right_tours tours tells = record {
      front = subst (IsTourFront (setting_of net) r stops) (sym (told_pairs 1 routes tours tells))
          (plain_front (setting_of net) r stops code_base planned.bound (long_stops net r stops asked) asked.count plain_base
          (low_origin net r stops asked) asked.in_time (map (λ (x : RuledRoute). x.pair) routes) planned.front);
      legs = zip_all (IsToldBy 1) IsPlannedFirst (AchievesTour (setting_of net) r stops) tour_legs routes tours tells planned.first;
      first = zip_all (IsToldBy 1) IsPlannedFirst (IsFirstTour (setting_of net) r stops) first_tour routes tours tells planned.first;
    }
