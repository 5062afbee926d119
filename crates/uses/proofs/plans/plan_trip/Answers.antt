use Rattle.std.proofs.Common.{arith}
use Rattle.route_base.specs.Matching.{IsInWindow}
use Rattle.route_base.specs.Net.{setting_of}
use Rattle.route_base.specs.declared.types.Run.{Run}
use Rattle.network_tables.specs.RoadSetting.{road_setting}
use Rattle.uses.proofs.plans.plan_trip.Goals as goal

pub returns : goal.returns
returns c =
    let request = c.args.request in
    let window : Run = record { lo = request.depart; hi = request.until } in
    let within : IsInWindow request window = (omega arith, omega arith) in
    (c.settings_agree.ensures.right (setting_of c.in_ok-net.net) (road_setting c.args.network.now c.args.vehicle.now) window request
    c.in_ok-net.ensures.stands within c.in_ok-routes.routes).0 c.in_ok-routes.ensures
