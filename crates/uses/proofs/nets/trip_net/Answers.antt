use Rattle.std.proofs.Common.{◌≡◌, subst, arith}
use Rattle.dimacs_reader.specs.GraphModel.{IsGoodGraph}
use Rattle.uses.proofs.CheapArcs.{cheap_arcs}
use Rattle.uses.proofs.nets.trip_net.Goals as goal

pub returns : goal.returns
returns c =
    let network = c.args.network.now in
    let net = c.in_ok-net.net in
    let trip = c.requires.trip in
    let stands = c.in_ok-net.ensures.stands in
    let nodes : net.nodes ≡ network.graph.nodes = stands.nodes in
    let graph : IsGoodGraph network.graph = subst IsGoodGraph c.graph-graph.ensures.value c.node_count-nodes.ensures.good in
    record {
      stands = stands;
      good = record {
        origin = (trip.origin.0, omega (arith, nodes, trip.origin.1));
        goal = (trip.goal.0, omega (arith, nodes, trip.goal.1));
        depart = trip.depart.1;
        until = trip.until.1;
      };
      cheap = cheap_arcs net c.in_ok-net.ensures.cheap;
      nodes = omega (arith, nodes, graph.nodes);
      arcs = omega (arith, stands.arcs, graph.arcs);
    }
