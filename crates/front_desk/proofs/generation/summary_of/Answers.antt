use Rattle.std.proofs.Common.{◌≡◌, ℕ, length, ap, subst, ◌∙◌, arith}
use Rattle.route_base.specs.Front.{IsRight}
use Rattle.route_base.specs.Matching.{IsInWindow}
use Rattle.route_base.specs.Net.{setting_of}
use Rattle.route_base.specs.declared.types.Request.{Request}
use Rattle.dimacs_reader.specs.GraphModel.{GraphModel}
use Rattle.network_tables.specs.NetworkModel.{NetworkModel}
use Rattle.plan_report.specs.Summary.{summary_text_of}
use Rattle.front_desk.specs.Gen.{stated_network}
use Rattle.front_desk.specs.Inside.Planning.{trip_window}
use Rattle.front_desk.specs.Plan.{trip_setting}
use Rattle.front_desk.specs.Trips.{Trip, request_of, trip_in}
use Rattle.front_desk.proofs.generation.summary_of.Goals as goal

pub returns : goal.returns
returns g c =
    let grid = c.args.grid.now in
    let network = stated_network grid in
    let net = setting_of c.in_ok-net.net in
    let trip = trip_in c.drawn_trip-trip.result in
    let request = request_of trip in
    let routes = c.in_ok-routes.routes in
    let within : IsInWindow request (trip_window trip) = (omega arith, omega arith) in
    let right = (c.settings_agree.ensures.right net (trip_setting c.args.network.now trip) (trip_window trip) request c.in_ok-net.ensures.stands within
    routes).0 (subst (λ (r : Request). IsRight net r routes) c.request_of.ensures c.in_ok-routes.ensures) in
    let graph : c.graph-graph.result.now ≡ network.graph =
    c.graph-graph.ensures.value ∙ ap (λ (n : NetworkModel). n.graph) c.requires.network in
    let nodes : c.node_count.result ≡ network.graph.nodes = c.node_count.ensures.value ∙ ap (λ (x : GraphModel). x.nodes) graph in
    let arcs : c.arc_count.result ≡ length network.graph.arcs = c.arc_count.ensures.value ∙ ap (λ (x : GraphModel). length x.arcs) graph in
    record {
      routes = routes;
      right = subst (λ (t : Trip). IsRight (trip_setting network t) (request_of t) routes) c.drawn_trip-trip.ensures
          (subst (λ (n : NetworkModel). IsRight (trip_setting n trip) (request_of trip) routes) c.requires.network right);
      is_text =
          c.in_ok-text.ensures ∙ ap (λ (k : ℕ). summary_text_of k c.arc_count.result routes) nodes
          ∙ ap (λ (k : ℕ). summary_text_of network.graph.nodes k routes) arcs;
    }
