use Rattle.std.proofs.Common.{take}
use Rattle.std.specs.List.{AllZip}
use Rattle.rested_tours.specs.Inside.ToldRoutes.{IsToldBy}
use Rattle.rested_tours.proofs.told_routes.told_routes.Given as goal

abbrev pub invariant-loop-route : goal.invariant-loop-route
invariant-loop-route l = AllZip (IsToldBy l.rest) (take l.route-index l.routes) l.out.items
