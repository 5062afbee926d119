use Rattle.std.proofs.Common.{◌≡◌, ℕ, ◌+◌, ◌*◌, Option, Some, [], inl, inr, refl, sym, ◌∙◌, ap, arith}
use Rattle.std.specs.Option.{option_map}
use Rattle.dimacs_reader.specs.GraphModel.{GraphModel}
use Rattle.dimacs_reader.specs.declared.graph.GraphArc.{GraphArc}
use Rattle.route_base.specs.Itinerary.{Position, drive}
use Rattle.route_base.specs.Net.{at_number}
use Rattle.route_base.specs.Setting.{Road}
use Rattle.route_base.specs.declared.types.ArcId.{ArcId}
use Rattle.route_base.specs.declared.types.Leg.TheVariants.{Drive}
use Rattle.route_base.proofs.Numbered.{number_within}
use Rattle.vehicle_classes.specs.VehicleModel.{VehicleModel}
use Rattle.network_tables.specs.NetworkModel.{NetworkModel, toll_at}
use Rattle.network_tables.specs.RoadSetting.{road_over}
use Rattle.trip_explain.specs.Inside.{position_of}
use Rattle.trip_explain.specs.Explanations.{StopsIn}
use Rattle.trip_explain.specs.Reasons.{IsBarred, elsewhere, late, closed}
use Rattle.trip_explain.specs.declared.explanation.Why.{Why}
use Rattle.trip_explain.proofs.legs.after_drive.Goals as goal

-- what is found by an arc's number in the graph, and the road of the arc
arc_there : (n : NetworkModel) (a : ArcId) {g : GraphModel} {seen found : Option GraphArc} → g ≡ n.graph → seen ≡ at_number g.arcs a.0 → seen ≡ found
    → at_number n.graph.arcs a.0 ≡ found
arc_there n a same is found = ap (λ (g : GraphModel). at_number g.arcs a.0) (sym same) ∙ sym is ∙ found

road_there : (n : NetworkModel) (a : ArcId) {arc : GraphArc} → at_number n.graph.arcs a.0 ≡ Some arc
    → option_map (road_over (toll_at n a.0)) (at_number n.graph.arcs a.0) ≡ Some (road_over (toll_at n a.0) arc)
road_there n a here = ap (option_map (road_over (toll_at n a.0))) here

-- a drive that can't be taken from here
stops_here : {network : NetworkModel} {vehicle : VehicleModel} {until minute : ℕ} {why : Why} (a : ArcId) (at : Position)
    → IsBarred network vehicle until at (drive a.0) minute why → StopsIn network vehicle until (Drive a) at minute why
stops_here a at stuck = record { made = []; step = drive a.0; left = []; at = at; steps = refl; walk = refl; stuck = stuck }

pub returns-in_default-clause-err : goal.returns-in_default-clause-err
returns-in_default-clause-err c =
    stops_here c.args.a (position_of c.args.at) (elsewhere (inl (ap (option_map (road_over (toll_at c.args.network.now c.args.a.0)))
    (arc_there c.args.network.now c.args.a c.graph.ensures.value c.arc.ensures.value c.in_default.is))))

pub returns-then-arc-at-clause-err : goal.returns-then-arc-at-clause-err
returns-then-arc-at-clause-err c =
    let road : Road = road_over (toll_at c.args.network.now c.args.a.0) c.in-Some.arc in
    let is = road_there c.args.network.now c.args.a (arc_there c.args.network.now c.args.a c.graph.ensures.value c.arc.ensures.value c.in-Some.is) in
    stops_here c.args.a (position_of c.args.at) (elsewhere (inr (road, is, c.if-arc-at.true)))

pub returns-then-at-arc-clause-err : goal.returns-then-at-arc-clause-err
returns-then-at-arc-clause-err c =
    let road : Road = road_over (toll_at c.args.network.now c.args.a.0) c.in-Some.arc in
    let is = road_there c.args.network.now c.args.a (arc_there c.args.network.now c.args.a c.graph.ensures.value c.arc.ensures.value c.in-Some.is) in
    stops_here c.args.a (position_of c.args.at) (late road (record { is = is; tail = c.if-arc-at.false }) c.if-at-arc.true)

pub first_closing-requires-clause-high : goal.first_closing-requires-clause-high
first_closing-requires-clause-high c =
    (number_within c.args.network.now.graph.arcs c.args.a.0 c.in-Some.arc
    (arc_there c.args.network.now c.args.a c.graph.ensures.value c.arc.ensures.value c.in-Some.is)).1

pub returns-in-Some-first_closing-clause-err : goal.returns-in-Some-first_closing-clause-err
returns-in-Some-first_closing-clause-err c =
    let road : Road = road_over (toll_at c.args.network.now c.args.a.0) c.in-Some.arc in
    let is = road_there c.args.network.now c.args.a (arc_there c.args.network.now c.args.a c.graph.ensures.value c.arc.ensures.value c.in-Some.is) in
    stops_here c.args.a (position_of c.args.at) (closed road (record { is = is; tail = c.if-arc-at.false }) c.if-at-arc.false
    c.in-Some-first_closing.ensures.within c.in-Some-first_closing.ensures.some)

pub returns-clause-ok : goal.returns-clause-ok
returns-clause-ok c =
    let road : Road = road_over (toll_at c.args.network.now c.args.a.0) c.in-Some.arc in
    let is = road_there c.args.network.now c.args.a (arc_there c.args.network.now c.args.a c.graph.ensures.value c.arc.ensures.value c.in-Some.is) in (
      position_of (record {
        node = c.in-Some.arc.head;
        minute = c.args.at.minute + c.in-Some.arc.minutes;
        cost = c.args.at.cost + (1000 * c.in-Some.arc.minutes + c.toll.result);
      }),
      record {
        road = road;
        is = is;
        tail = c.if-arc-at.false;
        is_open = c.first_closing.ensures.none c.in_default-first_closing.is;
        in_time = omega (arith, c.if-at-arc.false);
        node = refl;
        minute = refl;
        cost = ap (λ (x : ℕ). c.args.at.cost + (1000 * c.in-Some.arc.minutes + x)) c.toll.ensures.value;
      },
      refl,
    )
