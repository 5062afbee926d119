-- The net of a trip (source: own).
use Rattle.std.specs.Prelude.{◌≤◌, length}
use Rattle.route_base.specs.Matching.{StandsFor}
use Rattle.route_base.specs.Net.{Net, IsGoodRequest, setting_of}
use Rattle.route_base.specs.declared.limits.TheConstants.{MOST_NODES, MOST_ARCS}
use Rattle.route_base.specs.declared.types.Request.{Request}
use Rattle.route_base.specs.declared.types.Run.{Run}
use Rattle.vehicle_classes.specs.VehicleModel.{VehicleModel}
use Rattle.front_transport.specs.CheapArcs.{HasCheapArcs}
use Rattle.network_tables.specs.NetworkModel.{NetworkModel}
use Rattle.network_tables.specs.RoadSetting.{road_setting}

-- the minutes of a trip
abbrev pub minutes_of : Request → Run
minutes_of r = record { lo = r.depart; hi = r.until }

-- the net stands for the roads of the vehicle in the trip's minutes, none of which is dear, and the trip is a request over it
pub record IsNetOf (network : NetworkModel) (vehicle : VehicleModel) (r : Request) (net : Net) : Type 0 where
  pub stands : StandsFor (setting_of net) (road_setting network vehicle) (minutes_of r)
  pub good : IsGoodRequest net r
  pub cheap : HasCheapArcs net
  pub nodes : net.nodes ≤ MOST_NODES
  pub arcs : length net.arcs ≤ MOST_ARCS
