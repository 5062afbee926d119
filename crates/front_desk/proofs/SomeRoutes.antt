-- Each trip over a sound network has right routes.
use Rattle.std.proofs.Common.{List, length}
use Rattle.dimacs_reader.specs.GraphModel.{IsGoodGraph}
use Rattle.route_base.specs.Front.{IsRight}
use Rattle.route_base.specs.Net.{at_number}
use Rattle.route_base.specs.declared.types.Route.{Route}
use Rattle.route_base.proofs.Arcs.{TakesTime}
use Rattle.route_base.proofs.Costs.{fits}
use Rattle.route_base.proofs.Logic.{map_some}
use Rattle.route_base.proofs.Numbered.{number_within}
use Rattle.route_base.proofs.SomeAnswer.{some_routes}
use Rattle.route_base.proofs.SomeWalk.{IsNumberedUpTo}
use Rattle.network_tables.specs.NetworkModel.{IsGoodNetwork, NetworkModel, toll_at}
use Rattle.network_tables.specs.RoadSetting.{road_over}
use Rattle.front_desk.specs.Plan.{trip_setting}
use Rattle.front_desk.specs.Trips.{IsGoodTrip, Trip, request_of, vehicle_named}
use Rattle.front_desk.proofs.CheapRoads.{cheap, road_minutes}

module _ (network : NetworkModel) (good : IsGoodNetwork network) (graph : IsGoodGraph network.graph) (trip : Trip)
    (fine : IsGoodTrip network.graph.nodes trip) where
  takes : TakesTime (trip_setting network trip)
  takes a road is = (road_minutes network (vehicle_named network trip.vehicle) good graph a road is).0

  numbers : IsNumberedUpTo (trip_setting network trip) (length network.graph.arcs)
  numbers a road is =
      let arc = map_some (at_number network.graph.arcs a) (road_over (toll_at network a)) road is in
      number_within network.graph.arcs a arc.0 arc.1

  -- the trip has right routes
  pub some_trip : (routes : List Route) × IsRight (trip_setting network trip) (request_of trip) routes
  some_trip = some_routes (trip_setting network trip) (request_of trip) takes (length network.graph.arcs) numbers
      (fits (trip_setting network trip) (request_of trip) (cheap network (vehicle_named network trip.vehicle) good graph) fine.in_order fine.short)
      fine.in_order
