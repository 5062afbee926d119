use Rattle.std.proofs.Common.{take}
use Rattle.drive_breaks.specs.Inside.Unpacking.{AreUnpacked}
use Rattle.drive_breaks.proofs.sources.unpacked_routes.Given as goal

abbrev pub invariant-loop-route : goal.invariant-loop-route
invariant-loop-route l = AreUnpacked l.sources (take l.route-index l.routes) l.out.items
