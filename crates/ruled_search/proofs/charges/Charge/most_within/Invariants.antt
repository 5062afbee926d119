use Rattle.std.proofs.Common.{◌≤◌, length}
use Rattle.ruled_search.proofs.Charging.{AreLeft, IsMost}
use Rattle.ruled_search.proofs.charges.Charge.most_within.Given as goal

abbrev pub invariant-pieces : goal.invariant-pieces
invariant-pieces l = AreLeft l.pieces l.left l.next × (l.lo ≤ l.next) × IsMost l.self.price l.self.until l.pieces l.lo l.hi l.next l.most

abbrev pub decreases-pieces : goal.decreases-pieces
decreases-pieces l = length l.left
