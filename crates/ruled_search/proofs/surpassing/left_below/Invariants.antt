use Rattle.std.proofs.Common.{length}
use Rattle.ruled_search.proofs.LeftBelow.{AreSorted}
use Rattle.ruled_search.proofs.surpassing.left_below.Given as goal

abbrev pub invariant-pieces : goal.invariant-pieces
invariant-pieces l = AreSorted l.charge.price l.charge.until l.added l.bar l.costs l.built l.left

abbrev pub decreases-pieces : goal.decreases-pieces
decreases-pieces l = length l.left
