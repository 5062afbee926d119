use Rattle.std.proofs.Common.{length}
use Rattle.road_access.specs.Inside.{SpansLeft}
use Rattle.road_access.proofs.steady_hours.spans_steady.Given as goal

abbrev pub invariant-spans : goal.invariant-spans
invariant-spans l = SpansLeft l.at l.most l.spans l.left l.count

abbrev pub decreases-spans : goal.decreases-spans
decreases-spans l = length l.left
