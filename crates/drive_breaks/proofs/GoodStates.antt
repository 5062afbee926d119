-- The net over states is well-formed, and no minute of it is dear.
use Rattle.std.proofs.Common.{◌≡◌, ⊎_elim, ℕ, ◌+◌, ◌*◌, ◌≤◌, Some, None, List, [], ◌∷◌, ◌++◌, length, map, get_or, sym, ◌∙◌, ap, arith}
use Rattle.std.proofs.Common.{length-append}
use Rattle.std.specs.Option.{ForSome}
use Rattle.std.proofs.lemmas.List.{length-map}
use Rattle.std.proofs.lemmas.List.Elements.{All-push, All-map}
use Rattle.std.proofs.lemmas.Nat.{mul-le}
use Rattle.route_base.specs.Setting.{Road}
use Rattle.route_base.specs.Net.{Net, at_number, park_at, road_of, setting_of, IsGoodArc, IsGoodNet, IsGoodPark}
use Rattle.route_base.specs.declared.limits.TheConstants.{DAY_MINUTES, DEAREST_MINUTE, HEAVIEST_WEIGHT}
use Rattle.route_base.specs.declared.types.Leg.{Leg}
use Rattle.route_base.specs.declared.types.Leg.TheVariants.{Drive, Wait}
use Rattle.route_base.specs.declared.types.Park.{Park}
use Rattle.route_base.specs.declared.types.TimedArc.{TimedArc}
use Rattle.route_base.proofs.Numbered.{at_number-all, at_number-map, number_within}
use Rattle.route_base.proofs.Arcs.{good_arc}
use Rattle.route_base.proofs.Costs.{IsCheap}
use Rattle.route_base.proofs.Logic.{flat_some, map_some}
use Rattle.route_base.proofs.Parks.{good_park}
use Rattle.front_transport.specs.CheapArcs.{HasCheapArcs}
use Rattle.front_transport.proofs.Places.{at_either, by_numbers}
use Rattle.drive_breaks.specs.Inside.StateNet.{IsArcFor, AreBuilt, net_over}
use Rattle.drive_states.specs.StateSize.{IsDeparture}
use Rattle.drive_states.specs.Inside.StateSearch.{IsSoundWay, IsExplored}
use Rattle.drive_states.specs.declared.rule.BreakRule.{BreakRule}
use Rattle.drive_states.specs.declared.rule.State.{State}
use Rattle.drive_states.specs.declared.rule.Way.{Way}
use Rattle.drive_breaks.proofs.OverStates.{all_in, park_over}

none_some : (park : Park) → None ≡ Some park → ⊥
none_some park same = cc

module _ (net : Net) (good : IsGoodNet net) (rule : BreakRule) (origin goal : ℕ) (states : List State) (ways : List Way) (arcs : List TimedArc)
    (sources : List Leg)
    (explored : IsExplored (setting_of net) origin rule states ways)
    (built : AreBuilt net states goal ways arcs sources) (low : 1 ≤ rule.rest) (high : rule.rest ≤ DAY_MINUTES) where
  fine : (leg : Leg) (from to : State) (i j : ℕ) (arc : TimedArc) → IsDeparture (setting_of net) rule from leg to → IsArcFor net states i j leg arc
      → (1 ≤ i) × (i ≤ length states) → (1 ≤ j) × (j ≤ length states + 1) → IsGoodArc (net_over net states arcs) arc
  fine (Drive a) from to i j arc departs made is_i is_j =
      let base : IsGoodArc net made.0 = good_arc net good a.0 made.0 made.1 in
      record {
        tail = (omega (arith, is_i.0, ap (λ (w : TimedArc). w.tail.0) made.2), omega (arith, is_i.1, ap (λ (w : TimedArc). w.tail.0) made.2));
        head = (omega (arith, is_j.0, ap (λ (w : TimedArc). w.head.0) made.2), omega (arith, is_j.1, ap (λ (w : TimedArc). w.head.0) made.2));
        minutes = (
          omega (arith, base.minutes.0, ap (λ (w : TimedArc). w.minutes) made.2),
          omega (arith, base.minutes.1, ap (λ (w : TimedArc). w.minutes) made.2),
        );
        cost = omega (arith, base.cost, ap (λ (w : TimedArc). w.cost) made.2);
        closed = omega (arith, base.closed, ap (λ (w : TimedArc). w.closed) made.2);
      }
  fine (Wait k) from to i j arc departs made is_i is_j =
      let small = mul-le k made.2.weight DAY_MINUTES HEAVIEST_WEIGHT (omega (arith, departs.0, high)) made.4.weight in
      record {
        tail = (omega (arith, is_i.0, ap (λ (w : TimedArc). w.tail.0) made.5), omega (arith, is_i.1, ap (λ (w : TimedArc). w.tail.0) made.5));
        head = (omega (arith, is_j.0, ap (λ (w : TimedArc). w.head.0) made.5), omega (arith, is_j.1, ap (λ (w : TimedArc). w.head.0) made.5));
        minutes = (
          omega (arith, departs.0, low, ap (λ (w : TimedArc). w.minutes) made.5),
          omega (arith, departs.0, high, ap (λ (w : TimedArc). w.minutes) made.5),
        );
        cost = omega (arith, small, ap (λ (w : TimedArc). w.cost) made.5);
        closed = omega (arith, made.4.shut, ap (λ (w : TimedArc). w.closed) made.5);
      }

  fine_at : (x : ℕ) (arc : TimedArc) → at_number arcs x ≡ Some arc → IsGoodArc (net_over net states arcs) arc
  fine_at x arc is =
      let one = built.each x arc is in
      let way = one.2.way in
      let sound = all_in (IsSoundWay (setting_of net) rule states) ways way explored.facts.each_way one.2.is_one in
      let from = number_within states way.from sound.from sound.at_from in
      let to = number_within states way.to sound.to sound.at_to in
      ⊎_elim
      (λ inner. fine way.leg sound.from sound.to way.from way.to arc sound.departs inner from (to.0, omega (arith, to.1)))
      (λ copy. fine way.leg sound.from sound.to way.from (length states + 1) arc sound.departs copy.0 from (omega arith, omega arith))
      one.2.made

  -- the park of a node is well-formed over states too
  fine_park : (v : ℕ) → ForSome (park_at net v) (IsGoodPark (net_over net states arcs))
  fine_park v park is = let base = good_park net good v park is in record { weight = base.weight; shut = base.shut }

  light : (v w : ℕ) → (setting_of (net_over net states arcs)).weight v ≡ Some w → w ≤ HEAVIEST_WEIGHT
  unfolding park_over
  light v w is =
      let found = map_some (park_at (net_over net states arcs) v) (λ park. park.weight) w is in
      ⊎_elim
      (λ (old : at_number (map (park_over net) states) v ≡ Some (Some found.0)).
      (let state = map_some (at_number states v) (park_over net) (Some found.0) (sym (at_number-map (park_over net) states v) ∙ old) in
      omega (arith, (fine_park state.0.node.0 found.0 state.2).weight, found.2)))
      (λ (new : (v ≡ length (map (park_over net) states) + 1) × (None ≡ Some found.0)). absurd (none_some found.0 new.1))
      (at_either (map (park_over net) states) None v (Some found.0) (flat_some (at_number (map (park_over net) states ++ None ∷ []) v) found.0 found.1))

  pub good_over : IsGoodNet (net_over net states arcs)
  unfolding park_over
  good_over = record {
    nodes = omega (arith, explored.small, explored.facts.few);
    arcs = omega (arith, explored.small, built.long);
    closed = good.closed;
    parks = omega (arith, length-append (map (park_over net) states) (None ∷ []), length-map states (park_over net));
    each_arc = by_numbers (IsGoodArc (net_over net states arcs)) arcs fine_at;
    each_runs = good.each_runs;
    each_park = All-push (λ o. ForSome o (IsGoodPark (net_over net states arcs))) (map (park_over net) states) None
        (All-map (λ o. ForSome o (IsGoodPark (net_over net states arcs))) (park_over net) states (λ k d within. fine_park (get_or states k d).node.0))
        (λ park is. absurd (none_some park is));
  }

  cheap_for : (leg : Leg) (i j : ℕ) (arc : TimedArc) → HasCheapArcs net → IsArcFor net states i j leg arc
      → arc.cost ≤ DEAREST_MINUTE * arc.minutes
  cheap_for (Drive a) i j arc cheap made =
      let base = at_number-all (λ (b : TimedArc). b.cost ≤ DEAREST_MINUTE * b.minutes) net.arcs a.0 made.0 cheap made.1 in
      omega (arith, base, ap (λ (w : TimedArc). w.cost) made.2, ap (λ (w : TimedArc). w.minutes) made.2)
  cheap_for (Wait k) i j arc cheap made =
      let small = mul-le k made.2.weight k HEAVIEST_WEIGHT (omega arith) made.4.weight in
      omega (arith, small, ap (λ (w : TimedArc). w.cost) made.5, ap (λ (w : TimedArc). w.minutes) made.5)

  pub cheap_over : HasCheapArcs net → IsCheap (setting_of (net_over net states arcs))
  cheap_over cheap = record {
    each_road = λ x r is.
        (let found = map_some (at_number arcs x) road_of r is in
        let one = built.each x found.0 found.1 in
        let low : found.0.cost ≤ DEAREST_MINUTE * found.0.minutes = ⊎_elim
        (λ inner. cheap_for one.2.way.leg one.2.way.from one.2.way.to found.0 cheap inner)
        (λ copy. cheap_for one.2.way.leg one.2.way.from (length states + 1) found.0 cheap copy.0)
        one.2.made in
        omega (arith, low, ap (λ (w : Road). w.cost) found.2, ap (λ (w : Road). w.minutes) found.2));
    each_weight = λ v w is. omega (arith, light v w is);
  }
