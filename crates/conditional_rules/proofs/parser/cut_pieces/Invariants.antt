use Rattle.std.proofs.Common.{length}
use Rattle.conditional_rules.proofs.CutLists.{SoFar}
use Rattle.conditional_rules.proofs.parser.cut_pieces.Given as goal

abbrev pub invariant-loop-piece : goal.invariant-loop-piece
invariant-loop-piece g l = SoFar g.T.Piece.first_mark g.T.Piece.width g.T.Piece.Is l.text l.rest l.out

abbrev pub decreases-loop-piece : goal.decreases-loop-piece
decreases-loop-piece g l = length l.rest
