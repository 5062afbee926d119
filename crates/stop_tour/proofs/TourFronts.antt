-- The front of the layered net is the tour front, and its routes are right tours.
use Rattle.std.proofs.Common.{◌≡◌, ⊎_elim, inl, inr, ℕ, suc, ◌+◌, ◌-◌, ◌*◌, ◌≤◌, Some, List, [], ◌∷◌, length, map, refl, sym, ◌∙◌, ap, subst, arith, All}
use Rattle.std.specs.Prelude.{reverse}
use Rattle.std.proofs.lemmas.List.{map-id}
use Rattle.std.proofs.lemmas.List.Elements.{All-map}
use Rattle.route_base.specs.Setting.{Setting, Road}
use Rattle.route_base.specs.Itinerary.{Position, Step, Walks}
use Rattle.route_base.specs.FirstItinerary.{ComesBefore, IsFirst}
use Rattle.route_base.specs.Legs.{CostsFit, start_of, end_of, steps_of, Achieves, HasNoNeighbouringWaits}
use Rattle.route_base.specs.Front.{IsFront, IsAchieved, IsNoWorse, IsRight, pairs_of}
use Rattle.route_base.specs.Net.{Net, at_number, road_of, setting_of, IsGoodArc, IsGoodNet, IsGoodRequest}
use Rattle.route_base.specs.declared.types.Pair.{Pair}
use Rattle.route_base.specs.declared.types.Request.{Request}
use Rattle.route_base.specs.declared.types.Route.{Route}
use Rattle.route_base.specs.declared.types.TimedArc.{TimedArc}
use Rattle.route_base.proofs.Arcs.{TakesTime, good_arc}
use Rattle.route_base.proofs.BackwardWalks.{leads_back}
use Rattle.route_base.proofs.Logic.{map_some}
use Rattle.route_base.proofs.Numbered.{at_number-all, number_within}
use Rattle.route_base.proofs.SomeAnswer.{some_routes}
use Rattle.route_base.proofs.SomeWalk.{IsNumberedUpTo}
use Rattle.route_base.proofs.Waiting.{same_position}
use Rattle.front_transport.specs.ParetoFronts.{ArrivesBefore}
use Rattle.front_transport.proofs.PairOrder.{no_worse_order}
use Rattle.front_transport.proofs.Transport.{carried}
use Rattle.stop_tour.specs.Inside.Layers.{service, tour_net, tour_request}
use Rattle.stop_tour.specs.Inside.Unlayering.{step_over, leg_over, route_over}
use Rattle.stop_tour.specs.Tours.{IsGoodStop, TourPosition, TourStep, TourWalks, tour_start, tour_end, IsTourAchieved, IsTourFront}
use Rattle.stop_tour.specs.Tours.{AchievesTour, AreRightTours, IsFirstTour, tour_steps_of}
use Rattle.stop_tour.specs.declared.stops.Stop.{Stop}
use Rattle.stop_tour.specs.declared.stops.TourRoute.{TourRoute}
use Rattle.stop_tour.proofs.LayerPlaces.{IsInLayer, one_place}
use Rattle.stop_tour.proofs.Layered.{s, z, arc_kinds, IsInTour, tour_walk, placed_walk, tour_in_time}
use Rattle.stop_tour.proofs.FirstOverLayers.{map_reversed, comes_before, order_kept}
use Rattle.stop_tour.proofs.Unlayered.{steps_over, no_empty_over, apart_over}

tour_position : ℕ → ℕ → ℕ → ℕ → TourPosition
tour_position v t x j = record { at = record { node = v; minute = t; cost = x }; served = j }

same_tour : (p q : TourPosition) → p.at.node ≡ q.at.node → p.at.minute ≡ q.at.minute → p.at.cost ≡ q.at.cost → p.served ≡ q.served → p ≡ q
unfolding tour_position
same_tour p q v t x j = ap (λ (w : ℕ). tour_position w p.at.minute p.at.cost p.served) v ∙ ap (λ (w : ℕ). tour_position q.at.node w p.at.cost p.served) t
    ∙ ap (λ (w : ℕ). tour_position q.at.node q.at.minute w p.served) x ∙ ap (λ (w : ℕ). tour_position q.at.node q.at.minute q.at.cost w) j

module _ (net : Net) (good : IsGoodNet net) (stops : List Stop) (each_stop : All (IsGoodStop net) stops) (r : Request) (asked : IsGoodRequest net r) where
  zt : Setting
  zt = setting_of (tour_net net stops r.until)

  begins : IsInTour net good stops each_stop r.until (start_of (tour_request net stops r)) (tour_start r)
  begins = record { node = omega arith; minute = refl; cost = refl; low = asked.origin.0; high = asked.origin.1; served = omega arith }

  over : List Step → List TourStep
  over xs = map (step_over (length net.arcs) (suc (length stops))) xs

  ends : (steps : List Step) (p : Pair) → Walks zt r.until steps (start_of (tour_request net stops r)) (end_of (tour_request net stops r) p)
      → TourWalks (setting_of net) stops r.until (over steps) (tour_start r) (tour_end r (length stops) p)
  unfolding zt z s over
  ends steps p walk =
      let one = tour_walk net good stops each_stop r.until steps (start_of (tour_request net stops r)) (end_of (tour_request net stops r) p)
      (tour_start r) begins walk in
      let here = one_place net.nodes one.q.served (length stops) one.q.at.node r.goal.0 one.in_tour.low one.in_tour.high asked.goal.0 asked.goal.1
      (sym one.in_tour.node) in
      subst (λ (w : TourPosition). TourWalks (setting_of net) stops r.until (over steps) (tour_start r) w)
      (same_tour one.q (tour_end r (length stops) p) here.1 (sym one.in_tour.minute) (sym one.in_tour.cost) here.0) one.walk

  sound : (p : Pair) → IsAchieved zt (tour_request net stops r) p → IsTourAchieved (setting_of net) r stops p
  sound p can = record { in_time = can.in_time; steps = over can.steps; walk = ends can.steps p can.walk }

  -- a tour of the pair is a walk over layers
  record IsOverLayers (steps : List TourStep) (p : Pair) : Type 0 where
    pub steps_there : List Step
    pub is_over : over steps_there ≡ steps
    pub walk : Walks zt r.until steps_there (start_of (tour_request net stops r)) (end_of (tour_request net stops r) p)

  over_layers : (steps : List TourStep) (p : Pair) → r.depart ≤ r.until → TourWalks (setting_of net) stops r.until steps (tour_start r)
      (tour_end r (length stops) p) → IsOverLayers steps p
  unfolding zt z s over
  over_layers steps p in_time walk =
      let one = placed_walk net good stops each_stop r.until steps (start_of (tour_request net stops r)) (tour_start r)
      (tour_end r (length stops) p) begins walk refl
      (tour_in_time net good stops each_stop r.until steps (tour_start r) (tour_end r (length stops) p) walk in_time) in
      record {
        steps_there = one.steps;
        is_over = one.is_over;
        walk = subst (λ (w : Position). Walks (setting_of (tour_net net stops r.until)) r.until one.steps (start_of (tour_request net stops r)) w)
            (same_position one.last _ one.in_tour.node one.in_tour.minute one.in_tour.cost) one.walk;
      }

  covers : (p : Pair) → IsTourAchieved (setting_of net) r stops p → (q : Pair) × IsAchieved zt (tour_request net stops r) q × IsNoWorse q p
  covers p can =
      let one = over_layers can.steps p can.in_time can.walk in
      (p, record { in_time = can.in_time; steps = one.steps_there; walk = one.walk }, (omega arith, omega arith))

  -- the front of the layered net is the tour front
  pub tour_front : (pairs : List Pair) → IsFront (setting_of (tour_net net stops r.until)) (tour_request net stops r) pairs
      → IsTourFront (setting_of net) r stops pairs
  unfolding zt
  tour_front pairs front =
      subst (IsTourFront (setting_of net) r stops) (map-id pairs)
      (carried IsNoWorse ArrivesBefore (IsAchieved zt (tour_request net stops r)) IsNoWorse ArrivesBefore (IsTourAchieved (setting_of net) r stops) (λ p. p)
      no_worse_order no_worse_order
      (record { sound = sound; covers = covers; keeps = λ a c can_a can_c le. le; tells = λ a c can_a can_c le. le; before = λ a c can_a can_c lt. lt })
      pairs (record { ordered = front.rising; each = front.each }))

  tour_route : (route : Route) → Achieves (setting_of (tour_net net stops r.until)) (tour_request net stops r) route.legs route.pair
      × HasNoNeighbouringWaits route.legs
      → AchievesTour (setting_of net) r stops (route_over (length net.arcs) (suc (length stops)) route)
  unfolding zt over
  tour_route route fine = record {
    in_time = fine.0.in_time;
    no_empty_wait = no_empty_over (length net.arcs) (suc (length stops)) route.legs fine.0.no_empty_wait;
    walk = subst (λ (w : List TourStep). TourWalks (setting_of net) stops r.until w (tour_start r) (tour_end r (length stops) route.pair))
        (sym (steps_over (length net.arcs) (suc (length stops)) route.legs)) (ends (steps_of route.legs) route.pair fine.0.walk);
    apart = apart_over (length net.arcs) (suc (length stops)) route.legs fine.1;
  }

  reversed_over : (xs : List Step) → over (reverse xs) ≡ reverse (over xs)
  unfolding over
  reversed_over xs = map_reversed (step_over (length net.arcs) (suc (length stops))) xs

  -- the first itinerary over layers is the first tour
  first_tour : (route : Route) → Achieves (setting_of (tour_net net stops r.until)) (tour_request net stops r) route.legs route.pair
      → IsFirst (setting_of (tour_net net stops r.until)) (tour_request net stops r) route.legs route.pair
      → IsFirstTour (setting_of net) r stops (route_over (length net.arcs) (suc (length stops)) route)
  unfolding zt over z
  first_tour route fine first steps walk =
      let one = over_layers steps route.pair fine.in_time walk in
      let legs : tour_steps_of (map (leg_over (length net.arcs) (suc (length stops))) route.legs) ≡ over (steps_of route.legs) =
      steps_over (length net.arcs) (suc (length stops)) route.legs in
      let start : Position = start_of (tour_request net stops r) in
      let end : Position = end_of (tour_request net stops r) route.pair in
      ⊎_elim
      (λ (same : one.steps_there ≡ steps_of route.legs). inl (sym one.is_over ∙ ap over same ∙ sym legs))
      (λ (before : ComesBefore (reverse (steps_of route.legs)) (reverse one.steps_there)).
      inr (comes_before _ _ _ _
      (reversed_over (steps_of route.legs) ∙ ap reverse (sym legs)) (reversed_over one.steps_there ∙ ap reverse one.is_over)
      (order_kept net good stops each_stop r.until (reverse (steps_of route.legs)) (reverse one.steps_there) start start end
      (leads_back (setting_of (tour_net net stops r.until)) r.until (steps_of route.legs) start end fine.walk)
      (leads_back (setting_of (tour_net net stops r.until)) r.until one.steps_there start end one.walk) before)))
      (first one.steps_there one.walk)

  same_pairs : (routes : List Route) → pairs_of routes ≡ map (λ x. x.pair) (map (route_over (length net.arcs) (suc (length stops))) routes)
  same_pairs [] = refl
  same_pairs (route ∷ routes) = ap (λ (w : List Pair). route.pair ∷ w) (same_pairs routes)

  -- the routes over layers are those of the tour front
  pub right_tours : (routes : List Route) → IsRight (setting_of (tour_net net stops r.until)) (tour_request net stops r) routes
      → AreRightTours (setting_of net) r stops (map (route_over (length net.arcs) (suc (length stops))) routes)
  right_tours routes right = record {
    front = subst (IsTourFront (setting_of net) r stops) (same_pairs routes) (tour_front (pairs_of routes) right.front);
    legs = All-map (AchievesTour (setting_of net) r stops) (route_over (length net.arcs) (suc (length stops))) routes
        (λ k d within. tour_route _ (right.legs k d within));
    first = All-map (IsFirstTour (setting_of net) r stops) (route_over (length net.arcs) (suc (length stops))) routes
        (λ k d within. first_tour _ (right.legs k d within).0 (right.first k d within));
  }

  -- each road over layers takes time
  takes_layers : TakesTime zt
  unfolding zt z
  takes_layers x road is =
      let found = map_some (at_number (tour_net net stops r.until).arcs x) road_of road is in
      ⊎_elim
      (λ (layer : IsInLayer net.nodes (length net.closed) (length stops) net.arcs (suc (length stops)) x found.0).
      (let fine : IsGoodArc net layer.base = good_arc net good layer.a layer.base layer.is in
      omega (arith, fine.minutes.0, ap (λ (w : TimedArc). w.minutes) layer.same, ap (λ (w : Road). w.minutes) found.2)))
      (λ (one : (i : ℕ) × (stop : Stop) × (at_number stops i ≡ Some stop)
      × (service net.nodes (suc (length stops) * length net.closed) (0 + (i - 1)) stop ≡ found.0) × (x ≡ suc (length stops) * length net.arcs + i)).
      (let fine : IsGoodStop net one.1 = at_number-all (IsGoodStop net) stops one.0 one.1 each_stop one.2 in
      omega (arith, fine.service.0, ap (λ (w : TimedArc). w.minutes) one.3, ap (λ (w : Road). w.minutes) found.2)))
      (arc_kinds net good stops each_stop r.until x found.0 found.1)

  numbers_layers : IsNumberedUpTo zt (length (tour_net net stops r.until).arcs)
  unfolding zt
  numbers_layers x road is =
      let found = map_some (at_number (tour_net net stops r.until).arcs x) road_of road is in
      number_within (tour_net net stops r.until).arcs x found.0 found.1

  -- there are right tours
  pub some_tours : CostsFit (setting_of (tour_net net stops r.until)) (tour_request net stops r) → r.depart ≤ r.until
      → (routes : List TourRoute) × AreRightTours (setting_of net) r stops routes
  unfolding zt
  some_tours fit in_order =
      let all = some_routes zt (tour_request net stops r) takes_layers (length (tour_net net stops r.until).arcs) numbers_layers fit in_order in
      (map (route_over (length net.arcs) (suc (length stops))) all.0, right_tours all.0 all.1)
