use Rattle.std.proofs.Common.{◌<◌, ℕ, length, get_or}
use Rattle.cost_functions.specs.Lines.{IsSmallPiece}
use Rattle.cost_functions.specs.declared.pieces.Piece.{Piece}
use Rattle.certificate_check.proofs.reduction.are_small.Given as goal

abbrev pub invariant-loop-piece : goal.invariant-loop-piece
invariant-loop-piece l = (k : ℕ) (d : Piece) → k < l.piece-index → k < length l.pieces → IsSmallPiece (get_or l.pieces k d)
