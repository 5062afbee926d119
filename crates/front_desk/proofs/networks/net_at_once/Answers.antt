use Rattle.std.proofs.Common.{subst}
use Rattle.route_base.specs.Matching.{StandsFor}
use Rattle.route_base.specs.Net.{setting_of}
use Rattle.route_base.specs.declared.types.Run.{Run}
use Rattle.network_tables.specs.RoadSetting.{road_setting}
use Rattle.vehicle_classes.specs.VehicleModel.{VehicleModel}
use Rattle.front_desk.specs.Inside.Planning.{trip_window}
use Rattle.front_desk.specs.Trips.{trip_in}
use Rattle.front_desk.proofs.networks.net_at_once.Goals as goal

pub is_trip_net-requires-clause-stands : goal.is_trip_net-requires-clause-stands
is_trip_net-requires-clause-stands g c =
    subst (λ (m : VehicleModel). StandsFor (setting_of c.in_ok-net.net) (road_setting c.args.network.now m) (trip_window (trip_in c.args.trip)))
    c.requires.checked.named
    (subst (λ (window : Run). StandsFor (setting_of c.in_ok-net.net) (road_setting c.args.network.now c.args.vehicle.now) window)
    c.window_of.ensures c.in_ok-net.ensures.stands)
