use Rattle.std.proofs.Common.{◌<◌, ℕ, length, get_or}
use Rattle.route_base.specs.Relaxing.{HasPair}
use Rattle.cost_functions.specs.declared.pieces.Piece.{Piece}
use Rattle.certificate_check.proofs.goal.is_goal_covered.Given as goal

abbrev pub invariant-loop-piece : goal.invariant-loop-piece
invariant-loop-piece l = (k : ℕ) (d : Piece) → k < l.piece-index → k < length l.pieces → HasPair l.pairs (get_or l.pieces k d).lo (get_or l.pieces k d).cost
