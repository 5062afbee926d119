use Rattle.std.proofs.Common.{◌≡◌, subst, arith}
use Rattle.route_base.specs.Matching.{IsInWindow}
use Rattle.route_base.specs.Net.{setting_of}
use Rattle.route_base.proofs.Costs.{fits}
use Rattle.dimacs_reader.specs.GraphModel.{IsGoodGraph}
use Rattle.front_desk.specs.Inside.Planning.{trip_window}
use Rattle.front_desk.specs.Plan.{trip_setting}
use Rattle.front_desk.specs.Trips.{request_of, trip_in, vehicle_named}
use Rattle.front_desk.proofs.CheapRoads.{cheap, cheap_arcs, cheap_roads}
use Rattle.front_desk.proofs.laws.nets.is_trip_net.Goals as goal

pub returns : goal.returns
returns c =
    let network = c.args.network.now in
    let trip = trip_in c.args.trip in
    let net = c.args.net.now in
    let road = trip_setting network trip in
    let vehicle = vehicle_named network trip.vehicle in
    let request = request_of trip in
    let within : IsInWindow request (trip_window trip) = (omega arith, omega arith) in
    let stands = c.requires.stands in
    let good = c.requires.good in
    let nodes : net.nodes ≡ network.graph.nodes = stands.nodes in
    let graph : IsGoodGraph network.graph = subst IsGoodGraph c.graph-graph.ensures.value c.node_count-nodes.ensures.good in
    record {
      stands = stands;
      good = record {
        origin = (good.origin_low, omega (arith, nodes, good.origin_high));
        goal = (good.goal_low, omega (arith, nodes, good.goal_high));
        depart = c.requires.timed.depart.1;
        until = c.requires.timed.until.1;
      };
      fit = (c.settings_agree.ensures.fit (setting_of net) road (trip_window trip) request stands within).1
          (fits road request (cheap network vehicle c.requires.network graph) good.in_order good.short);
      cheap = (c.certificates_agree.ensures.cheap (setting_of net) road (trip_window trip) stands).1 (cheap_roads network vehicle c.requires.network graph);
      cheap_arcs = cheap_arcs network vehicle c.requires.network graph net stands.road;
      nodes = omega (arith, nodes, graph.nodes);
      arcs = omega (arith, stands.arcs, graph.arcs);
    }
