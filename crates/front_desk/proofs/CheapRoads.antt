-- The road setting of a vehicle has no dear road and no dear minute.
use Rattle.std.proofs.Common.{◌≡◌, ℕ, ◌+◌, ◌*◌, ◌≤◌, Some, get_or, length, ap, sym, subst, ◌∙◌, arith}
use Rattle.std.specs.Option.{option_map}
use Rattle.std.proofs.lemmas.Bool.{eqb-true}
use Rattle.std.proofs.lemmas.List.Elements.{All-contains}
use Rattle.std.proofs.lemmas.Map.Views.{Contains-from_lookup}
use Rattle.route_base.specs.Net.{Net, at_number, road_of, setting_of}
use Rattle.route_base.specs.Setting.{Road}
use Rattle.route_base.proofs.Logic.{map_some}
use Rattle.route_base.proofs.Numbered.{at_number-all, at_number-next}
use Rattle.route_base.proofs.Costs.{IsCheap}
use Rattle.front_transport.specs.CheapArcs.{HasCheapArcs}
use Rattle.dimacs_reader.specs.GraphModel.{IsGoodGraph, IsGoodGraphArc}
use Rattle.vehicle_classes.specs.VehicleModel.{VehicleModel}
use Rattle.network_tables.specs.NetworkModel.{NetworkModel, IsGoodNetwork, IsGoodParked, park_of, toll_at, weight_at}
use Rattle.network_tables.specs.Parking.{ParkRow}
use Rattle.network_tables.specs.RoadSetting.{road_setting, road_over}
use Rattle.plan_certificate.specs.CheapRoads.{HasCheapRoads}

-- the weight of a node is small
small_weight : (network : NetworkModel) → IsGoodNetwork network → (v w : ℕ) → weight_at network v ≡ Some w → w ≤ 100000
small_weight network good v w is =
    let found = map_some (park_of network v) (λ (park : ParkRow). park.weight) w is in
    let parked = Contains-from_lookup eqb-true v found.0 network.parks found.1 in
    omega (arith, (All-contains (IsGoodParked (length network.areas)) network.parks (v, found.0) good.parks parked).small, found.2)

module _ (network : NetworkModel) (vehicle : VehicleModel) (good : IsGoodNetwork network) (graph : IsGoodGraph network.graph) where
  -- the minutes of a road, and what it costs beside them
  pub road_minutes : (a : ℕ) (road : Road) → (road_setting network vehicle).road a ≡ Some road
      → (1 ≤ road.minutes) × (road.minutes ≤ 10080) × (road.cost ≤ 1000 * road.minutes + 100000)
  road_minutes a road is =
      let found = map_some (at_number network.graph.arcs a) (road_over (toll_at network a)) road is in
      let arc = at_number-all (IsGoodGraphArc network.graph.nodes) network.graph.arcs a found.0 graph.each_arc found.1 in
      subst (λ (r : Road). (1 ≤ r.minutes) × (r.minutes ≤ 10080) × (r.cost ≤ 1000 * r.minutes + 100000)) found.2
      (arc.minutes.0, arc.minutes.1, omega (arith, good.tolls a))

  -- no road costs more than the longest drive and a toll
  pub cheap_roads : HasCheapRoads (road_setting network vehicle)
  cheap_roads a road is = omega (arith, road_minutes a road is)

  -- no minute of driving or waiting is dear
  pub cheap : IsCheap (road_setting network vehicle)
  cheap = record {
    each_road = λ a road is. omega (arith, road_minutes a road is);
    each_weight = small_weight network good;
  }

  -- nor does an arc of a net that has these roads
  pub cheap_arcs : (over : Net) → ((a : ℕ) → (setting_of over).road a ≡ (road_setting network vehicle).road a) → HasCheapArcs over
  cheap_arcs over same k d inside =
      let is : (setting_of over).road (k + 1) ≡ Some (road_of (get_or over.arcs k d)) = ap (option_map road_of) (at_number-next over.arcs k d inside) in
      let road = road_minutes (k + 1) (road_of (get_or over.arcs k d)) (sym (same (k + 1)) ∙ is) in
      omega (arith, road)
