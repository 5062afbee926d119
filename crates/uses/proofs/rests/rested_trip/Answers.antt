use Rattle.std.proofs.Common.{rules, arith}
use Rattle.route_base.specs.Matching.{IsInWindow}
use Rattle.route_base.specs.Net.{setting_of}
use Rattle.network_tables.specs.RoadSetting.{road_setting}
use Rattle.uses.specs.Nets.{minutes_of}
use Rattle.uses.proofs.rests.rested_trip.Goals as goal

pub returns-clause-right : goal.returns-clause-right
returns-clause-right c =
    let request = c.args.request in
    let within : IsInWindow request (minutes_of request) = (omega arith, omega arith) in
    (c.rested_trips_agree.ensures.right (setting_of c.in-Ok.net) (road_setting c.args.network.now c.args.vehicle.now) (minutes_of request) request
    c.args.rule c.in-Ok.ensures.stands within c.in_ok-routes.routes).0 c.in_ok-routes.ensures.right

pub returns-clause-first : goal.returns-clause-first
returns-clause-first c =
    let request = c.args.request in
    let within : IsInWindow request (minutes_of request) = (omega arith, omega arith) in
    (c.rested_trips_agree.ensures.first (setting_of c.in-Ok.net) (road_setting c.args.network.now c.args.vehicle.now) (minutes_of request) request
    c.args.rule c.in-Ok.ensures.stands within c.in_ok-routes.routes).0 c.in_ok-routes.ensures.first

pub returns-in_err-routes-clause-many : goal.returns-in_err-routes-clause-many
returns-in_err-routes-clause-many c = λ is.
    (c.rested_trips_agree.ensures.states (setting_of c.in-Ok.net) (road_setting c.args.network.now c.args.vehicle.now) (minutes_of c.args.request)
    c.args.request.origin.0 c.args.rule c.in-Ok.ensures.stands).0 (search rules)
