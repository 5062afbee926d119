use Rattle.std.proofs.Common.{arith}
use Rattle.route_base.specs.Matching.{IsInWindow}
use Rattle.route_base.specs.Net.{setting_of}
use Rattle.network_tables.specs.RoadSetting.{road_setting}
use Rattle.uses.specs.Nets.{minutes_of}
use Rattle.uses.proofs.departures.late_departures.Goals as goal

pub returns : goal.returns
returns c =
    let request = c.args.request in
    let within : IsInWindow request (minutes_of request) = (omega arith, omega arith) in
    (c.late_routes_agree.ensures (setting_of c.in_ok-net.net) (road_setting c.args.network.now c.args.vehicle.now) (minutes_of request) request
    c.in_ok-net.ensures.stands within c.in_ok-routes.routes).0 c.in_ok-routes.ensures
