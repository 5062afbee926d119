use Rattle.std.proofs.Common.{◌≡◌, ◌++◌, map, drop, false}
use Rattle.serde_json.specs.View.{items_of}
use Rattle.serde_json.specs.Written.{items_text}
use Rattle.plan_report.specs.Json.{route_data}
use Rattle.plan_report.proofs.json.push_routes.Given as goal

abbrev pub invariant-loop-route : goal.invariant-loop-route
invariant-loop-route l = l.out.items ++ items_text l.later (items_of (map route_data (drop l.route-index l.routes)))
    ≡ l.initial.out.items ++ items_text false (items_of (map route_data l.routes))
