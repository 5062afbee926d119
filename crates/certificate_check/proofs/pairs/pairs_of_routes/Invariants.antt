use Rattle.std.proofs.Common.{◌≡◌, take}
use Rattle.route_base.specs.Front.{pairs_of}
use Rattle.certificate_check.proofs.pairs.pairs_of_routes.Given as goal

abbrev pub invariant-loop-route : goal.invariant-loop-route
invariant-loop-route l = l.pairs.items ≡ pairs_of (take l.route-index l.routes)
