use Rattle.std.proofs.Common.{◌≡◌, map, take}
use Rattle.latest_departure.specs.Inside.Mirror.{late_of}
use Rattle.latest_departure.proofs.routes.late_routes.Given as goal

abbrev pub invariant-loop-route : goal.invariant-loop-route
invariant-loop-route l = l.out.items ≡ map (late_of l.net l.goal l.sum) (take l.route-index l.routes)
