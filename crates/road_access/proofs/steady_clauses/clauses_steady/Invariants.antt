use Rattle.std.proofs.Common.{length}
use Rattle.road_access.specs.Inside.{ClausesLeft}
use Rattle.road_access.proofs.steady_clauses.clauses_steady.Given as goal

abbrev pub invariant-clauses : goal.invariant-clauses
invariant-clauses l = ClausesLeft l.minute l.most l.conditional l.left l.count

abbrev pub decreases-clauses : goal.decreases-clauses
decreases-clauses l = length l.left
