use Rattle.std.proofs.Common.{arith}
use Rattle.route_base.specs.Matching.{IsInWindow}
use Rattle.route_base.specs.Net.{setting_of}
use Rattle.network_tables.specs.RoadSetting.{road_setting}
use Rattle.uses.specs.Nets.{minutes_of}
use Rattle.uses.proofs.stops.tour_of.Goals as goal

pub returns-clause-right : goal.returns-clause-right
returns-clause-right c =
    let request = c.args.request in
    let within : IsInWindow request (minutes_of request) = (omega arith, omega arith) in
    (c.tours_agree.ensures.right (setting_of c.in-Ok.net) (road_setting c.args.network.now c.args.vehicle.now) (minutes_of request) request
    c.args.stops.now c.in-Ok.ensures.stands within c.in_ok-routes.routes).0 c.in_ok-routes.ensures.right
