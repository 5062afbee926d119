use Rattle.std.proofs.Common.{length}
use Rattle.road_access.specs.Inside.{PartsLeft}
use Rattle.road_access.proofs.steady_clauses.parts_steady.Given as goal

abbrev pub invariant-parts : goal.invariant-parts
invariant-parts l = PartsLeft l.minute l.most l.parts l.left l.count

abbrev pub decreases-parts : goal.decreases-parts
decreases-parts l = length l.left
