-- Walks of the layered net are tours, step by step.
use Rattle.std.proofs.Common.{◌≡◌, ◌⊎◌, inl, inr, ⊎_elim, ℕ, zero, suc, ◌+◌, ◌-◌, ◌*◌, ◌%◌, ◌≤◌, ◌<◌, Option, Some, None, List, [], ◌∷◌, ◌++◌, length, map}
use Rattle.std.proofs.Common.{false, get_or, All, refl, sym, ◌∙◌, ap, subst, arith}
use Rattle.std.specs.Prelude.{slice_get, unwrap_or}
use Rattle.std.specs.Option.{option_map, option_flatten}
use Rattle.route_base.specs.Setting.{Setting, Road}
use Rattle.route_base.specs.Itinerary.{Position, Step, drive, wait, Moves, Walks}
use Rattle.route_base.specs.Runs.{any_has, AreRuns}
use Rattle.std.proofs.lemmas.Option.{unwrap_or-slice_get}
use Rattle.route_base.specs.Net.{Net, at_number, park_at, road_of, runs_of, runs_by, shut_by, setting_of, IsGoodArc, IsGoodNet}
use Rattle.route_base.specs.declared.types.Park.{Park}
use Rattle.route_base.specs.declared.types.Run.{Run}
use Rattle.route_base.specs.declared.types.TimedArc.{TimedArc}
use Rattle.route_base.proofs.Numbered.{at_number-all, at_number-next, number_within}
use Rattle.route_base.proofs.Arcs.{good_arc}
use Rattle.route_base.proofs.Parks.{rated_park}
use Rattle.route_base.proofs.Logic.{map_some}
use Rattle.front_transport.proofs.ListPlaces.{list_kept, list_behind}
use Rattle.front_transport.proofs.NetParts.{road_arc}
use Rattle.front_transport.proofs.Places.{at_left, at_right, at_both}
use Rattle.stop_tour.specs.Inside.Layers.{lifted, layered, copies, service, services, outside, last_minute, layered_lists, tour_net}
use Rattle.stop_tour.specs.Tours.{IsGoodStop, TourPosition, TourStep, go, serve, TourMoves, TourWalks}
use Rattle.stop_tour.specs.Inside.Unlayering.{step_over}
use Rattle.std.proofs.lemmas.Nat.{mul-le, mod-mul-add}
use Rattle.std.proofs.lemmas.Bool.{le-leb, lt-leb}
use Rattle.stop_tour.specs.declared.stops.Stop.{Stop}
use Rattle.stop_tour.proofs.LayerPlaces.{length_layered, IsInLayer, in_layer, layer_at, copy_at, one_place, service_of, service_at}
use Rattle.stop_tour.proofs.LayerLists.{length_lists, place_fits, runs_in_layer, list_in_layer, list_first, open_in_layer, closed_in_layer}
use Rattle.stop_tour.proofs.LayerLists.{last_next, last_end}
use Rattle.stop_tour.proofs.Windows.{within_window, open_within}

list_of : (until : ℕ) (stops : List Stop) (i : ℕ) (stop : Stop) → at_number stops i ≡ Some stop
    → unwrap_or (slice_get (map (outside until) stops) (i - 1)) [] ≡ outside until stop
list_of until [] zero stop is = absurd (cc)
list_of until [] (suc k) stop is = absurd (cc)
list_of until (x ∷ xs) zero stop is = absurd (cc)
list_of until (x ∷ xs) (suc zero) stop is =
    let place : suc zero - 1 ≡ 0 = omega arith in
    ap (λ (n : ℕ). unwrap_or (slice_get (map (outside until) (x ∷ xs)) n) []) place ∙ ap (outside until) (some_stop x stop is)
  where
    some_stop : (u w : Stop) → Some u ≡ Some w → u ≡ w
    some_stop u w same = cc
list_of until (x ∷ xs) (suc (suc k)) stop is =
    let place : suc (suc k) - 1 ≡ suc (suc k - 1) = omega arith in
    ap (λ (n : ℕ). unwrap_or (slice_get (map (outside until) (x ∷ xs)) n) []) place ∙ list_of until xs (suc k) stop is

module _ (net : Net) (good : IsGoodNet net) (stops : List Stop) (each_stop : All (IsGoodStop net) stops) (until : ℕ) where
  unfoldable pub s : Setting
  s = setting_of net

  unfoldable pub z : Setting
  z = setting_of (tour_net net stops until)

  -- the position in its layer
  pub record IsInTour (big : Position) (p : TourPosition) : Type 0 where
    pub node : big.node ≡ p.served * net.nodes + p.at.node
    pub minute : big.minute ≡ p.at.minute
    pub cost : big.cost ≡ p.at.cost
    pub low : 1 ≤ p.at.node
    pub high : p.at.node ≤ net.nodes
    pub served : p.served ≤ length stops

  lists : ℕ → List Run
  lists k = unwrap_or (slice_get (layered_lists until net.closed stops ++ map (outside until) stops) k) []

  shut_is : (x t : ℕ) (arc : TimedArc) → at_number (tour_net net stops until).arcs x ≡ Some arc → z.shut x t ≡ any_has (lists arc.closed) t
  unfolding z lists
  shut_is x t arc is = ap (λ (o : Option TimedArc). any_has (runs_by (tour_net net stops until) o) t) is

  -- the runs of an arc in a layer
  runs_here : (j a : ℕ) (base : TimedArc) → j ≤ length stops → at_number net.arcs a ≡ Some base
      → lists ((length stops - j) * length net.closed + base.closed) ≡ runs_in_layer until stops j (runs_of net base)
  unfolding lists
  runs_here j a base below is =
      let fine : IsGoodArc net base = good_arc net good a base is in
      list_kept (layered_lists until net.closed stops) (map (outside until) stops) ((length stops - j) * length net.closed + base.closed)
      (subst (λ (n : ℕ). (length stops - j) * length net.closed + base.closed < n) (sym (length_lists until net.closed stops))
      (place_fits (length stops - j) (length stops) (length net.closed) base.closed (omega arith) fine.closed))
      ∙ list_in_layer until net.closed stops j base.closed below fine.closed

  good_runs : (base : TimedArc) → IsGoodArc net base → AreRuns (runs_of net base)
  good_runs base fine = subst AreRuns (sym (unwrap_or-slice_get net.closed base.closed [])) (good.each_runs base.closed [] fine.closed)

  base_runs : (a t : ℕ) (base : TimedArc) → at_number net.arcs a ≡ Some base → s.shut a t ≡ any_has (runs_of net base) t
  unfolding s
  base_runs a t base is = ap (λ (o : Option TimedArc). any_has (runs_by net o) t) is

  -- what is open over a layer is open
  open_here : (j a t : ℕ) (base : TimedArc) → j ≤ length stops → at_number net.arcs a ≡ Some base → t < until
      → any_has (lists ((length stops - j) * length net.closed + base.closed)) t ≡ false → s.shut a t ≡ false
  open_here j a t base below is in_time free =
      let fine : IsGoodArc net base = good_arc net good a base is in
      base_runs a t base is ∙ closed_in_layer until t stops j (runs_of net base) (good_runs base fine) in_time
      (ap (λ (w : List Run). any_has w t) (sym (runs_here j a base below is)) ∙ free)

  -- what is open in time for the other stops is open over the layer
  open_there : (j a t : ℕ) (base : TimedArc) → j ≤ length stops → at_number net.arcs a ≡ Some base → t < last_minute until stops j
      → s.shut a t ≡ false → any_has (lists ((length stops - j) * length net.closed + base.closed)) t ≡ false
  open_there j a t base below is early free =
      ap (λ (w : List Run). any_has w t) (runs_here j a base below is)
      ∙ open_in_layer until t stops j (runs_of net base) early (sym (base_runs a t base is) ∙ free)

  -- an arc of the layered net is one of a layer or a service
  pub arc_kinds : (x : ℕ) (arc : TimedArc) → at_number (tour_net net stops until).arcs x ≡ Some arc
      → IsInLayer net.nodes (length net.closed) (length stops) net.arcs (suc (length stops)) x arc
      ⊎ ((i : ℕ) × (stop : Stop) × (at_number stops i ≡ Some stop) × (service net.nodes (suc (length stops) * length net.closed) (0 + (i - 1)) stop ≡ arc)
      × (x ≡ suc (length stops) * length net.arcs + i))
  arc_kinds x arc is = ⊎_elim
      (λ (layer : at_number (layered net.nodes (length net.closed) (length stops) net.arcs (suc (length stops))) x ≡ Some arc). inl (in_layer net.nodes
      (length net.closed) (length stops) net.arcs (suc (length stops)) x arc layer))
      (λ (behind : (i : ℕ) × (x ≡ length (layered net.nodes (length net.closed) (length stops) net.arcs (suc (length stops))) + i)
      × (at_number (services net.nodes (suc (length stops) * length net.closed) 0 stops) i ≡ Some arc)).
      (let one = service_of net.nodes (suc (length stops) * length net.closed) 0 stops behind.0 arc behind.2 in
      inr (behind.0, one.0, one.1, one.2, omega (arith, behind.1, length_layered net.nodes (length net.closed) (length stops) net.arcs (suc (length stops))))))
      (at_both (layered net.nodes (length net.closed) (length stops) net.arcs (suc (length stops))) (services net.nodes (suc
      (length stops) * length net.closed) 0 stops) x arc is)

  -- a step of a tour for a step over layers
  record Toured (over : Step) (big : Position) (p : TourPosition) : Type 0 where
    pub step : TourStep
    pub is_step : step_over (length net.arcs) (suc (length stops)) over ≡ step
    pub q : TourPosition
    pub move : TourMoves s stops until step p q
    pub in_tour : IsInTour big q

  -- a number up to that of the last layer is of an arc, and one behind is of a service
  pub drive_over : (x j a : ℕ) → j < suc (length stops) → (1 ≤ a) × (a ≤ length net.arcs) → x ≡ j * length net.arcs + a
      → step_over (length net.arcs) (suc (length stops)) (drive x) ≡ go (drive a)
  drive_over x j a below inside number =
      let low : x ≤ suc (length stops) * length net.arcs = omega (
        arith,
        number,
        inside.1,
        mul-le (suc j) (length net.arcs) (suc (length stops)) (length net.arcs)
            (omega (arith, below)) (omega arith),
      ) in
      let place : x - 1 ≡ j * length net.arcs + (a - 1) = omega (arith, number, inside.0) in
      let rest : (x - 1) % length net.arcs + 1 ≡ a = omega (
        arith,
        ap (λ (k : ℕ). k % length net.arcs) place,
        mod-mul-add j (length net.arcs) (a - 1) (omega (arith, inside.0, inside.1)),
        inside.0,
      ) in
      rw (le-leb x (suc (length stops) * length net.arcs) low) (ap (λ (k : ℕ). go (drive k)) rest)

  pub serve_over : (x i : ℕ) → 1 ≤ i → x ≡ suc (length stops) * length net.arcs + i → step_over (length net.arcs) (suc (length stops)) (drive x) ≡ serve i
  serve_over x i some number =
      rw (lt-leb x (suc (length stops) * length net.arcs) (omega (arith, number, some))) (ap serve (omega (arith, number)))

  by_layer : (x : ℕ) (arc : TimedArc) (big next : Position) (p : TourPosition) → IsInTour big p → (move : Moves z until (drive x) big next)
      → at_number (tour_net net stops until).arcs x ≡ Some arc → road_of arc ≡ move.road → IsInLayer net.nodes (length net.closed) (length stops) net.arcs
      (suc (length stops)) x arc
      → Toured (drive x) next p
  unfolding s
  by_layer x arc big next p at move is road_is layer =
      let base : TimedArc = layer.base in
      let fine : IsGoodArc net base = good_arc net good layer.a base layer.is in
      let tail : layer.j * net.nodes + base.tail.0 ≡ p.served * net.nodes + p.at.node =
      ap (λ (w : TimedArc). w.tail.0) layer.same ∙ ap (λ (w : Road). w.tail) road_is ∙ move.tail ∙ at.node in
      let here = one_place net.nodes layer.j p.served base.tail.0 p.at.node fine.tail.0 fine.tail.1 at.low at.high tail in
      let minutes : base.minutes ≡ move.road.minutes = ap (λ (w : TimedArc). w.minutes) layer.same ∙ ap (λ (w : Road). w.minutes) road_is in
      let cost : base.cost ≡ move.road.cost = ap (λ (w : TimedArc). w.cost) layer.same ∙ ap (λ (w : Road). w.cost) road_is in
      record {
        step = go (drive layer.a);
        is_step = drive_over x layer.j layer.a layer.below (number_within net.arcs layer.a base layer.is) layer.number;
        q = record { at = record { node = base.head.0; minute = next.minute; cost = next.cost }; served = p.served };
        move = (
          record {
            road = road_of base;
            is = ap (option_map road_of) layer.is;
            tail = here.1;
            is_open = λ t early late. open_here layer.j layer.a t base (omega (arith, layer.below)) layer.is
                (omega (arith, late, move.in_time, at.minute, minutes))
                (ap (λ (k : ℕ). any_has (lists k) t) (ap (λ (w : TimedArc). w.closed) layer.same) ∙ sym (shut_is x t arc is)
                ∙ move.is_open t (omega (arith, early, at.minute)) (omega (arith, late, at.minute, minutes)));
            in_time = omega (arith, move.in_time, at.minute, minutes);
            node = refl;
            minute = omega (arith, move.minute, at.minute, minutes);
            cost = omega (arith, move.cost, at.cost, cost);
          },
          refl,
        );
        in_tour = record {
          node = move.node ∙ ap (λ (w : Road). w.head) (sym road_is) ∙ ap (λ (w : TimedArc). w.head.0) (sym layer.same)
              ∙ ap (λ (k : ℕ). k * net.nodes + base.head.0) here.0;
          minute = refl;
          cost = refl;
          low = fine.head.0;
          high = fine.head.1;
          served = at.served;
        };
      }

  runs_of_stop : (i : ℕ) (stop : Stop) → at_number stops i ≡ Some stop
      → lists (suc (length stops) * length net.closed + (0 + (i - 1))) ≡ outside until stop
  unfolding lists
  runs_of_stop i stop is =
      let same : suc (length stops) * length net.closed + (0 + (i - 1)) ≡ length (layered_lists until net.closed stops) + (i - 1) =
      omega (arith, length_lists until net.closed stops) in
      ap (λ (k : ℕ). unwrap_or (slice_get (layered_lists until net.closed stops ++ map (outside until) stops) k) []) same
      ∙ list_behind (layered_lists until net.closed stops) (map (outside until) stops) (i - 1) ∙ list_of until stops i stop is

  by_service : (x : ℕ) (arc : TimedArc) (big next : Position) (p : TourPosition) → IsInTour big p → (move : Moves z until (drive x) big next)
      → at_number (tour_net net stops until).arcs x ≡ Some arc → road_of arc ≡ move.road → (i : ℕ) → (stop : Stop) → at_number stops i ≡ Some stop
      → service net.nodes (suc (length stops) * length net.closed) (0 + (i - 1)) stop ≡ arc → x ≡ suc (length stops) * length net.arcs + i → Toured
      (drive x) next p
  by_service x arc big next p at move is road_is i stop stop_is same at_x =
      let fine : IsGoodStop net stop = at_number-all (IsGoodStop net) stops i stop each_stop stop_is in
      let inside = number_within stops i stop stop_is in
      let tail : (0 + (i - 1)) * net.nodes + stop.node.0 ≡ p.served * net.nodes + p.at.node =
      ap (λ (w : TimedArc). w.tail.0) same ∙ ap (λ (w : Road). w.tail) road_is ∙ move.tail ∙ at.node in
      let here = one_place net.nodes (0 + (i - 1)) p.served stop.node.0 p.at.node fine.node.0 fine.node.1 at.low at.high tail in
      let minutes : stop.service ≡ move.road.minutes = ap (λ (w : TimedArc). w.minutes) same ∙ ap (λ (w : Road). w.minutes) road_is in
      let cost : 0 ≡ move.road.cost = ap (λ (w : TimedArc). w.cost) same ∙ ap (λ (w : Road). w.cost) road_is in
      let number : i ≡ p.served + 1 = omega (arith, here.0, inside.0) in
      let window = within_window until stop p.at.minute stop.service fine.service.0 (omega (arith, move.in_time, at.minute, minutes))
      (λ u early late. ap (λ (w : List Run). any_has w u) (sym (runs_of_stop i stop stop_is))
      ∙ ap (λ (k : ℕ). any_has (lists k) u) (ap (λ (w : TimedArc). w.closed) same) ∙ sym (shut_is x u arc is)
      ∙ move.is_open u (omega (arith, early, at.minute)) (omega (arith, late, at.minute, minutes))) in
      record {
        step = serve i;
        is_step = serve_over x i inside.0 at_x;
        q = record { at = record { node = p.at.node; minute = next.minute; cost = next.cost }; served = i };
        move = record {
          next = number;
          stop = stop;
          is = stop_is;
          here = here.1;
          from = window.0;
          to = window.1;
          in_time = omega (arith, move.in_time, at.minute, minutes);
          node = refl;
          minute = omega (arith, move.minute, at.minute, minutes);
          cost = omega (arith, move.cost, at.cost, cost);
          served = refl;
        };
        in_tour = record {
          node = move.node ∙ ap (λ (w : Road). w.head) (sym road_is) ∙ ap (λ (w : TimedArc). w.head.0) (sym same)
              ∙ ap (λ (k : ℕ). k * net.nodes + stop.node.0) (omega (arith, number, here.0)) ∙ ap (λ (v : ℕ). i * net.nodes + v) here.1;
          minute = refl;
          cost = refl;
          low = at.low;
          high = at.high;
          served = inside.1;
        };
      }

  -- the park of a place is that of its node
  park_here : (big : Position) (p : TourPosition) → IsInTour big p → park_at (tour_net net stops until) big.node ≡ park_at net p.at.node
  park_here big p at =
      let place : p.at.node - 1 + 1 ≡ p.at.node = omega (arith, at.low) in
      let o : Option Park = get_or net.parks (p.at.node - 1) None in
      let is : at_number net.parks p.at.node ≡ Some o = ap (at_number net.parks) (sym place)
      ∙ at_number-next net.parks (p.at.node - 1) None (omega (arith, at.low, at.high, good.parks)) in
      let there : at_number (copies net.parks (suc (length stops))) big.node ≡ Some o =
      ap (at_number (copies net.parks (suc (length stops)))) (at.node ∙ ap (λ (k : ℕ). p.served * k + p.at.node) (sym good.parks))
      ∙ copy_at net.parks (suc (length stops)) p.served p.at.node o (omega (arith, at.served)) is in
      ap option_flatten (there ∙ sym is)

  weight_here : (big : Position) (p : TourPosition) → IsInTour big p → z.weight big.node ≡ s.weight p.at.node
  unfolding z s
  weight_here big p at = ap (option_map (λ park. park.weight)) (park_here big p at)

  -- a place is shut as its node is
  shut_here : (big : Position) (p : TourPosition) → IsInTour big p → (w t : ℕ) → s.weight p.at.node ≡ Some w → z.wait_shut big.node t ≡ s.wait_shut p.at.node t
  unfolding z s
  shut_here big p at w t rated =
      let found = rated_park net good p.at.node w rated in
      ap (λ (o : Option Park). any_has (shut_by (tour_net net stops until) o) t) (park_here big p at ∙ found.1)
      ∙ ap (λ (l : List Run). any_has l t)
      (list_kept (layered_lists until net.closed stops) (map (outside until) stops) found.0.shut
      (omega (arith, found.3.shut, length_lists until net.closed stops)) ∙ list_first until net.closed stops found.0.shut found.3.shut)
      ∙ ap (λ (o : Option Park). any_has (shut_by net o) t) (sym found.1)

  pub road_at : (y : ℕ) (road : Road) → z.road y ≡ Some road → option_map road_of (at_number (tour_net net stops until).arcs y) ≡ Some road
  unfolding z
  road_at y road is = is

  toured : (x : Step) (big next : Position) (p : TourPosition) → IsInTour big p → Moves z until x big next → Toured x next p
  toured (drive x) big next p at move =
      let found = map_some (at_number (tour_net net stops until).arcs x) road_of move.road (road_at x move.road move.is) in
      ⊎_elim
      (λ (layer : IsInLayer net.nodes (length net.closed) (length stops) net.arcs (suc
      (length stops)) x found.0). by_layer x found.0 big next p at move found.1 found.2 layer)
      (λ (one : (i : ℕ) × (stop : Stop) × (at_number stops i ≡ Some stop) × (service net.nodes (suc (length stops) * length net.closed) (0 + (i - 1)) stop
      ≡ found.0)
      × (x ≡ suc (length stops) * length net.arcs + i)).
      by_service x found.0 big next p at move found.1 found.2 one.0 one.1 one.2 one.3 one.4)
      (arc_kinds x found.0 found.1)
  toured wait big next p at move = record {
    step = go wait;
    is_step = refl;
    q = record { at = record { node = p.at.node; minute = next.minute; cost = next.cost }; served = p.served };
    move = (
      record {
        weight = move.weight;
        rated = sym (weight_here big p at) ∙ move.rated;
        is_open = sym (shut_here big p at move.weight p.at.minute (sym (weight_here big p at) ∙ move.rated))
            ∙ ap (z.wait_shut big.node) (sym at.minute) ∙ move.is_open;
        in_time = omega (arith, move.in_time, at.minute);
        node = refl;
        minute = omega (arith, move.minute, at.minute);
        cost = omega (arith, move.cost, at.cost);
      },
      refl,
    );
    in_tour = record { node = move.node ∙ at.node; minute = refl; cost = refl; low = at.low; high = at.high; served = at.served };
  }

  -- a walk over layers is a tour
  pub record IsTourWalk (xs : List Step) (big : Position) (p : TourPosition) : Type 0 where
    pub q : TourPosition
    pub walk : TourWalks s stops until (map (step_over (length net.arcs) (suc (length stops))) xs) p q
    pub in_tour : IsInTour big q

  pub tour_walk : (xs : List Step) (big last : Position) (p : TourPosition) → IsInTour big p → Walks z until xs big last → IsTourWalk xs last p
  tour_walk [] big last p at walk = record { q = p; walk = refl; in_tour = subst (λ (w : Position). IsInTour w p) walk at }
  tour_walk (x ∷ xs) big last p at walk =
      let one = toured x big walk.0 p at walk.1 in
      let more = tour_walk xs walk.0 last one.q one.in_tour walk.2 in
      record {
        q = more.q;
        walk = (one.q, subst (λ (w : TourStep). TourMoves s stops until w p one.q) (sym one.is_step) one.move, more.walk);
        in_tour = more.in_tour;
      }

  -- a step over layers for a step of a tour
  record Placed (big : Position) (step : TourStep) (q : TourPosition) : Type 0 where
    pub x : Step
    pub is_step : step_over (length net.arcs) (suc (length stops)) x ≡ step
    pub next : Position
    pub move : Moves z until x big next
    pub in_tour : IsInTour next q

  road_from : (y : ℕ) (arc : TimedArc) → at_number (tour_net net stops until).arcs y ≡ Some arc → z.road y ≡ Some (road_of arc)
  unfolding z
  road_from y arc is = ap (option_map road_of) is

  placed : (step : TourStep) (big : Position) (p q : TourPosition) → IsInTour big p → TourMoves s stops until step p q
      → q.at.minute ≤ last_minute until stops q.served → Placed big step q
  unfolding s
  placed (go (drive a)) big p q at moves early_enough =
      let move = moves.0 in
      let base = road_arc net good a move.road move.is in
      let x : ℕ = p.served * length net.arcs + a in
      let arc : TimedArc = lifted (p.served * net.nodes) ((length stops - p.served) * length net.closed) base.0 in
      let is : at_number (tour_net net stops until).arcs x ≡ Some arc =
      at_left (layered net.nodes (length net.closed) (length stops) net.arcs (suc (length stops))) (services net.nodes (suc
      (length stops) * length net.closed) 0 stops) x arc
      (layer_at net.nodes (length net.closed) (length stops) net.arcs (suc (length stops)) p.served a base.0 (omega (arith, at.served)) base.1) in
      let minutes : base.0.minutes ≡ move.road.minutes = ap (λ (w : Road). w.minutes) base.2 in
      record {
        x = drive x;
        is_step = drive_over x p.served a (omega (arith, at.served)) (number_within net.arcs a base.0 base.1) refl;
        next = record { node = p.served * net.nodes + base.0.head.0; minute = q.at.minute; cost = q.at.cost };
        move = record {
          road = road_of arc;
          is = road_from x arc is;
          tail = ap (λ (v : ℕ). p.served * net.nodes + v) (ap (λ (w : Road). w.tail) base.2 ∙ move.tail) ∙ sym at.node;
          is_open = λ t early late. shut_is x t arc is ∙ open_there p.served a t base.0 at.served base.1
              (omega (arith, late, at.minute, minutes, move.minute, early_enough, ap (last_minute until stops) moves.1))
              (move.is_open t (omega (arith, early, at.minute)) (omega (arith, late, at.minute, minutes)));
          in_time = omega (arith, move.in_time, at.minute, minutes);
          node = refl;
          minute = omega (arith, move.minute, at.minute, minutes);
          cost = omega (arith, move.cost, at.cost, ap (λ (w : Road). w.cost) base.2);
        };
        in_tour = record {
          node = ap (λ (v : ℕ). p.served * net.nodes + v) (ap (λ (w : Road). w.head) base.2 ∙ sym move.node)
              ∙ ap (λ (k : ℕ). k * net.nodes + q.at.node) (sym moves.1);
          minute = refl;
          cost = refl;
          low = omega (arith, base.3.head.0, ap (λ (w : Road). w.head) base.2, move.node);
          high = omega (arith, base.3.head.1, ap (λ (w : Road). w.head) base.2, move.node);
          served = omega (arith, at.served, moves.1);
        };
      }
  placed (go wait) big p q at moves early_enough =
      let move = moves.0 in
      record {
        x = wait;
        is_step = refl;
        next = record { node = big.node; minute = q.at.minute; cost = q.at.cost };
        move = record {
          weight = move.weight;
          rated = weight_here big p at ∙ move.rated;
          is_open = shut_here big p at move.weight big.minute move.rated ∙ ap (s.wait_shut p.at.node) at.minute ∙ move.is_open;
          in_time = omega (arith, move.in_time, at.minute);
          node = refl;
          minute = omega (arith, move.minute, at.minute);
          cost = omega (arith, move.cost, at.cost);
        };
        in_tour = record {
          node = at.node ∙ ap (λ (v : ℕ). p.served * net.nodes + v) (sym move.node) ∙ ap (λ (k : ℕ). k * net.nodes + q.at.node) (sym moves.1);
          minute = refl;
          cost = refl;
          low = omega (arith, at.low, move.node);
          high = omega (arith, at.high, move.node);
          served = omega (arith, at.served, moves.1);
        };
      }
  placed (serve i) big p q at move early_enough =
      let stop : Stop = move.stop in
      let fine : IsGoodStop net stop = at_number-all (IsGoodStop net) stops i stop each_stop move.is in
      let inside = number_within stops i stop move.is in
      let x : ℕ = length (layered net.nodes (length net.closed) (length stops) net.arcs (suc (length stops))) + i in
      let arc : TimedArc = service net.nodes (suc (length stops) * length net.closed) (0 + (i - 1)) stop in
      let is : at_number (tour_net net stops until).arcs x ≡ Some arc =
      at_right (layered net.nodes (length net.closed) (length stops) net.arcs (suc (length stops))) (services net.nodes (suc
      (length stops) * length net.closed) 0 stops) i arc
      (service_at net.nodes (suc (length stops) * length net.closed) 0 stops i stop move.is) in
      let layer : 0 + (i - 1) ≡ p.served = omega (arith, move.next) in
      let after : 0 + (i - 1) + 1 ≡ q.served = omega (arith, move.next, move.served) in
      record {
        x = drive x;
        is_step = serve_over x i inside.0 (omega (arith, length_layered net.nodes (length net.closed) (length stops) net.arcs (suc (length stops))));
        next = record { node = (0 + (i - 1) + 1) * net.nodes + stop.node.0; minute = q.at.minute; cost = q.at.cost };
        move = record {
          road = road_of arc;
          is = road_from x arc is;
          tail = ap (λ (k : ℕ). k * net.nodes + stop.node.0) layer ∙ ap (λ (v : ℕ). p.served * net.nodes + v) move.here ∙ sym at.node;
          is_open = λ t early late. shut_is x t arc is ∙ ap (λ (w : List Run). any_has w t) (runs_of_stop i stop move.is)
              ∙ open_within until stop t (omega (arith, early, at.minute, move.from)) (omega (arith, late, at.minute, move.to));
          in_time = omega (arith, move.in_time, at.minute);
          node = refl;
          minute = omega (arith, move.minute, at.minute);
          cost = omega (arith, move.cost, at.cost);
        };
        in_tour = record {
          node = ap (λ (k : ℕ). k * net.nodes + stop.node.0) after ∙ ap (λ (v : ℕ). q.served * net.nodes + v) (move.here ∙ sym move.node);
          minute = refl;
          cost = refl;
          low = omega (arith, at.low, move.node);
          high = omega (arith, at.high, move.node);
          served = omega (arith, inside.1, move.served);
        };
      }

  -- a tour is a walk over layers
  pub record IsPlacedWalk (big : Position) (xs : List TourStep) (q : TourPosition) : Type 0 where
    pub steps : List Step
    pub is_over : map (step_over (length net.arcs) (suc (length stops))) steps ≡ xs
    pub last : Position
    pub walk : Walks z until steps big last
    pub in_tour : IsInTour last q

  -- a step is in time for the other stops where its end is
  step_before : (step : TourStep) (p q : TourPosition) → TourMoves s stops until step p q → q.at.minute ≤ last_minute until stops q.served
      → p.at.minute ≤ last_minute until stops p.served
  step_before (go (drive a)) p q moves early = omega (arith, early, moves.0.minute, ap (last_minute until stops) moves.1)
  step_before (go wait) p q moves early = omega (arith, early, moves.0.minute, ap (last_minute until stops) moves.1)
  step_before (serve i) p q move early =
      let number : i ≡ suc p.served = omega (arith, move.next) in
      let next = last_next until stops p.served move.stop (ap (at_number stops) (sym number) ∙ move.is) in
      omega (arith, next, move.to, move.minute, early, ap (last_minute until stops) (move.served ∙ number))

  -- each position of a tour is in time for the other stops
  before_stops : (steps : List TourStep) (p q : TourPosition) → TourWalks s stops until steps p q → q.served ≡ length stops → q.at.minute ≤ until
      → p.at.minute ≤ last_minute until stops p.served
  before_stops [] p q walk all in_time =
      omega (
        arith,
        in_time,
        ap (λ (w : TourPosition). w.at.minute) walk,
        ap (last_minute until stops) (ap (λ (w : TourPosition). w.served) walk ∙ all),
        last_end until stops,
      )
  before_stops (step ∷ steps) p q walk all in_time = step_before step p walk.0 walk.1 (before_stops steps walk.0 q walk.2 all in_time)

  step_in_time : (step : TourStep) (p q : TourPosition) → TourMoves s stops until step p q → q.at.minute ≤ until
  step_in_time (go (drive a)) p q moves = omega (arith, moves.0.in_time, moves.0.minute)
  step_in_time (go wait) p q moves = omega (arith, moves.0.in_time, moves.0.minute)
  step_in_time (serve i) p q move = omega (arith, move.in_time, move.minute)

  -- a tour that begins by the horizon ends by it
  pub tour_in_time : (steps : List TourStep) (p q : TourPosition) → TourWalks s stops until steps p q → p.at.minute ≤ until → q.at.minute ≤ until
  tour_in_time [] p q walk early = subst (λ (w : TourPosition). w.at.minute ≤ until) walk early
  tour_in_time (step ∷ steps) p q walk early = tour_in_time steps walk.0 q walk.2 (step_in_time step p walk.0 walk.1)

  pub placed_walk : (steps : List TourStep) (big : Position) (p q : TourPosition) → IsInTour big p → TourWalks s stops until steps p q
      → q.served ≡ length stops → q.at.minute ≤ until → IsPlacedWalk big steps q
  placed_walk [] big p q at walk all in_time =
      record { steps = []; is_over = refl; last = big; walk = refl; in_tour = subst (λ (w : TourPosition). IsInTour big w) walk at }
  placed_walk (step ∷ steps) big p q at walk all in_time =
      let one = placed step big p walk.0 at walk.1 (before_stops steps walk.0 q walk.2 all in_time) in
      let more = placed_walk steps one.next walk.0 q one.in_tour walk.2 all in_time in
      record {
        steps = one.x ∷ more.steps;
        is_over = λ i. one.is_step i ∷ more.is_over i;
        last = more.last;
        walk = (one.next, one.move, more.walk);
        in_tour = more.in_tour;
      }
