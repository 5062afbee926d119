-- The layered net is well-formed, and no minute of it is dear.
use Rattle.std.proofs.Common.{◌≡◌, ⊎_elim, ℕ, zero, suc, ◌+◌, ◌-◌, ◌*◌, ◌≤◌, ◌<◌, ◌^◌, ◌++◌, if◌then◌else◌, nat_lt, Option, Some, List, [], ◌∷◌, length, map}
use Rattle.std.proofs.Common.{get_or}
use Rattle.std.proofs.Common.{All, AllPairs, refl, ◌∙◌, ap, subst, arith, length-append}
use Rattle.std.specs.Option.{ForSome}
use Rattle.std.proofs.lemmas.Bool.{cases_lt, lt-ltb, le-ltb}
use Rattle.std.proofs.lemmas.List.{length-map}
use Rattle.std.proofs.lemmas.List.Elements.{All-append, All-cons, All-nil, All-map}
use Rattle.std.proofs.lemmas.Nat.{mul-le}
use Rattle.route_base.specs.Setting.{Road}
use Rattle.route_base.specs.Runs.{AreRuns}
use Rattle.route_base.specs.Net.{Net, at_number, park_at, road_of, setting_of, IsGoodArc, IsGoodNet, IsGoodPark}
use Rattle.front_transport.specs.declared.limits.TheConstants.{MOST_STATES}
use Rattle.route_base.specs.declared.limits.TheConstants.{DEAREST_MINUTE, HEAVIEST_WEIGHT}
use Rattle.route_base.specs.declared.types.Park.{Park}
use Rattle.route_base.specs.declared.types.Run.{Run}
use Rattle.route_base.specs.declared.types.TimedArc.{TimedArc}
use Rattle.route_base.proofs.Arcs.{good_arc}
use Rattle.route_base.proofs.Lists.{pairs_append}
use Rattle.route_base.proofs.Numbered.{at_number-all, number_within}
use Rattle.route_base.proofs.Costs.{IsCheap}
use Rattle.route_base.proofs.Logic.{flat_some, map_some}
use Rattle.front_transport.specs.CheapArcs.{HasCheapArcs}
use Rattle.front_transport.proofs.Places.{at_both, by_numbers}
use Rattle.stop_tour.specs.Inside.Layers.{layered, copies, service, services, outside, layered_lists, tour_net}
use Rattle.stop_tour.specs.Tours.{IsGoodStop, tour_size_of}
use Rattle.stop_tour.specs.declared.stops.Stop.{Stop}
use Rattle.stop_tour.proofs.LayerPlaces.{length_layered, length_copies, IsInLayer}
use Rattle.stop_tour.proofs.LayerLists.{length_lists, place_fits, all_runs}
use Rattle.stop_tour.proofs.Layered.{arc_kinds}

length_services : (nodes place j : ℕ) (stops : List Stop) → length (services nodes place j stops) ≡ length stops
length_services nodes place j [] = refl
length_services nodes place j (stop ∷ stops) = omega (arith, length_services nodes place (j + 1) stops)

in_copies : (parks : List (Option Park)) (k v : ℕ) (o : Option Park) → at_number (copies parks k) v ≡ Some o → (a : ℕ) × (at_number parks a ≡ Some o)
in_copies parks zero zero o is = absurd (cc)
in_copies parks zero (suc v) o is = absurd (cc)
in_copies parks (suc k) v o is = ⊎_elim
    (λ (early : at_number (copies parks k) v ≡ Some o). in_copies parks k v o early)
    (λ (last : (a : ℕ) × (v ≡ length (copies parks k) + a) × (at_number parks a ≡ Some o)). (last.0, last.2))
    (at_both (copies parks k) parks v o is)

if_all : (P : Run → Type 0) (a b : ℕ) (r : Run) → (a < b → P r) → All P (if nat_lt a b then r ∷ [] else [])
if_all P a b r holds = ⊎_elim
    (λ (less : a < b). rw (lt-ltb a b less) (All-cons P r [] (holds less) (All-nil P)))
    (λ (other : b ≤ a). rw (le-ltb a b other) (All-nil P))
    (cases_lt a b)

if_apart : (a b : ℕ) (r : Run) → AllPairs (λ p q. p.hi < q.lo) (if nat_lt a b then r ∷ [] else [])
if_apart a b r i j d lt within = absurd (omega (arith, lt, within, short))
  where
    short : length (if nat_lt a b then r ∷ [] else []) ≤ 1
    short = ⊎_elim
        (λ (less : a < b). rw (lt-ltb a b less) (omega arith))
        (λ (other : b ≤ a). rw (le-ltb a b other) (omega arith))
        (cases_lt a b)

outside_runs : (until : ℕ) (stop : Stop) → stop.from < stop.to → AreRuns (outside until stop)
outside_runs until stop window =
    let first : Run = record { lo = 0; hi = stop.from } in
    let last : Run = record { lo = stop.to; hi = until } in
    record {
      filled = All-append (λ r. r.lo < r.hi) (if nat_lt 0 stop.from then first ∷ [] else []) (if nat_lt stop.to until then last ∷ [] else [])
          (if_all (λ r. r.lo < r.hi) 0 stop.from first (λ less. less)) (if_all (λ r. r.lo < r.hi) stop.to until last (λ less. less));
      apart = pairs_append (λ p q. p.hi < q.lo) (if nat_lt 0 stop.from then first ∷ [] else []) (if nat_lt stop.to until then last ∷ [] else [])
          (if_apart 0 stop.from first) (if_apart stop.to until last)
          (if_all (λ y. All (λ x. x.hi < y.lo) (if nat_lt 0 stop.from then first ∷ [] else [])) stop.to until last
          (λ less. if_all (λ x. x.hi < stop.to) 0 stop.from first (λ some. window)));
    }

module _ (net : Net) (good : IsGoodNet net) (stops : List Stop) (each_stop : All (IsGoodStop net) stops) (until : ℕ)
    (some : 1 ≤ net.nodes) (size : tour_size_of net stops ≤ MOST_STATES) where
  layers : ℕ
  layers = suc (length stops)

  nodes_fit : suc (length stops) * net.nodes ≤ MOST_STATES
  nodes_fit = omega (arith, size, mul-le (suc (length stops)) net.nodes (length stops + 1) (net.nodes + length net.arcs) (omega arith) (omega arith))

  arcs_fit : suc (length stops) * length net.arcs ≤ MOST_STATES
  arcs_fit = omega (arith, size, mul-le (suc (length stops)) (length net.arcs) (length stops + 1) (net.nodes + length net.arcs) (omega arith) (omega arith))

  pub stops_fit : suc (length stops) ≤ MOST_STATES
  stops_fit = omega (arith, nodes_fit, mul-le (suc (length stops)) 1 (suc (length stops)) net.nodes (omega arith) some)

  lists_count : length (layered_lists until net.closed stops ++ map (outside until) stops) ≡ suc (length stops) * length net.closed + length stops
  lists_count = omega (
    arith,
    length-append (layered_lists until net.closed stops) (map (outside until) stops),
    length_lists until net.closed stops,
    length-map stops (outside until),
  )

  -- a node of a layer is a node
  node_fits : (j v : ℕ) → j ≤ length stops → 1 ≤ v → v ≤ net.nodes → (1 ≤ j * net.nodes + v) × (j * net.nodes + v ≤ suc (length stops) * net.nodes)
  node_fits j v below low high = (
    omega (arith, low),
    omega (arith, high, mul-le (suc j) net.nodes (suc (length stops)) net.nodes (omega (arith, below)) (omega arith)),
  )

  fine : (x : ℕ) (arc : TimedArc) → at_number (tour_net net stops until).arcs x ≡ Some arc → IsGoodArc (tour_net net stops until) arc
  fine x arc is = ⊎_elim
      (λ (layer : IsInLayer net.nodes (length net.closed) (length stops) net.arcs (suc (length stops)) x arc).
      (let base : IsGoodArc net layer.base = good_arc net good layer.a layer.base layer.is in
      subst (IsGoodArc (tour_net net stops until)) layer.same (record {
        tail = node_fits layer.j layer.base.tail.0 (omega (arith, layer.below)) base.tail.0 base.tail.1;
        head = node_fits layer.j layer.base.head.0 (omega (arith, layer.below)) base.head.0 base.head.1;
        minutes = base.minutes;
        cost = base.cost;
        closed = omega (
          arith,
          place_fits (length stops - layer.j) (length stops) (length net.closed) layer.base.closed (omega arith) base.closed,
          lists_count,
        );
      })))
      (λ (one : (i : ℕ) × (stop : Stop) × (at_number stops i ≡ Some stop) × (service net.nodes (suc (length stops) * length net.closed) (0 + (i - 1)) stop
      ≡ arc)
      × (x ≡ suc (length stops) * length net.arcs + i)).
      (let stop : IsGoodStop net one.1 = at_number-all (IsGoodStop net) stops one.0 one.1 each_stop one.2 in
      let inside = number_within stops one.0 one.1 one.2 in
      subst (IsGoodArc (tour_net net stops until)) one.3 (record {
        tail = node_fits (0 + (one.0 - 1)) one.1.node.0 (omega (arith, inside.1)) stop.node.0 stop.node.1;
        head = node_fits (0 + (one.0 - 1) + 1) one.1.node.0 (omega (arith, inside.0, inside.1)) stop.node.0 stop.node.1;
        minutes = (stop.service.0, omega (arith, stop.service.1));
        cost = omega arith;
        closed = omega (arith, inside.0, inside.1, lists_count);
      })))
      (arc_kinds net good stops each_stop until x arc is)

  -- the parks of all layers are those of the net, with their lists by place
  fine_park : (v : ℕ) (o : Option Park) → at_number (copies net.parks (suc (length stops))) v ≡ Some o → ForSome o (IsGoodPark (tour_net net stops until))
  fine_park v o is park same =
      let found = in_copies net.parks (suc (length stops)) v o is in
      let base : IsGoodPark net park = at_number-all (λ w. ForSome w (IsGoodPark net)) net.parks found.0 o good.each_park found.1 park same in
      record { weight = base.weight; shut = omega (arith, base.shut, lists_count) }

  light : (v w : ℕ) → (setting_of (tour_net net stops until)).weight v ≡ Some w → w ≤ HEAVIEST_WEIGHT
  light v w is =
      let found = map_some (park_at (tour_net net stops until) v) (λ park. park.weight) w is in
      let there = flat_some (at_number (copies net.parks (suc (length stops))) v) found.0 found.1 in
      omega (arith, (fine_park v (Some found.0) there found.0 refl).weight, found.2)

  pub good_tour : suc (length stops) * length net.closed + length stops < 2 ^ 32 → IsGoodNet (tour_net net stops until)
  good_tour closed = record {
    nodes = nodes_fit;
    arcs = omega (
      arith,
      arcs_fit,
      stops_fit,
      length-append (layered net.nodes (length net.closed) (length stops) net.arcs (suc (length stops))) (services net.nodes (suc
          (length stops) * length net.closed) 0 stops),
      length_layered net.nodes (length net.closed) (length stops) net.arcs (suc (length stops)),
      length_services net.nodes (suc (length stops) * length net.closed) 0 stops,
    );
    closed = omega (arith, closed, lists_count);
    parks = length_copies net.parks (suc (length stops)) ∙ ap (λ (k : ℕ). suc (length stops) * k) good.parks;
    each_arc = by_numbers (IsGoodArc (tour_net net stops until)) (tour_net net stops until).arcs fine;
    each_runs = All-append AreRuns (layered_lists until net.closed stops) (map (outside until) stops) (all_runs until net.closed stops good.each_runs)
        (All-map AreRuns (outside until) stops (λ k d within. outside_runs until (get_or stops k d) (each_stop k d within).window));
    each_park = by_numbers (λ o. ForSome o (IsGoodPark (tour_net net stops until))) (copies net.parks (suc (length stops))) fine_park;
  }

  pub cheap_tour : HasCheapArcs net → IsCheap (setting_of (tour_net net stops until))
  cheap_tour cheap = record {
    each_road = λ x r is.
        (let found = map_some (at_number (tour_net net stops until).arcs x) road_of r is in
        let low : found.0.cost ≤ DEAREST_MINUTE * found.0.minutes = ⊎_elim
        (λ (layer : IsInLayer net.nodes (length net.closed) (length stops) net.arcs (suc (length stops)) x found.0).
        (let base = at_number-all (λ (b : TimedArc). b.cost ≤ DEAREST_MINUTE * b.minutes) net.arcs layer.a layer.base cheap layer.is in
        omega (arith, base, ap (λ (w : TimedArc). w.cost) layer.same, ap (λ (w : TimedArc). w.minutes) layer.same)))
        (λ (one : (i : ℕ) × (stop : Stop) × (at_number stops i ≡ Some stop) × (service net.nodes (suc (length stops) * length net.closed) (0 + (i - 1)) stop
        ≡ found.0)
        × (x ≡ suc (length stops) * length net.arcs + i)). omega (arith, ap (λ (w : TimedArc). w.cost) one.3))
        (arc_kinds net good stops each_stop until x found.0 found.1) in
        omega (arith, low, ap (λ (w : Road). w.cost) found.2, ap (λ (w : Road). w.minutes) found.2));
    each_weight = λ v w is. omega (arith, light v w is);
  }
