use Rattle.std.proofs.Common.{◌≡◌, ◌<◌, ℕ, length, take, get_or, All}
use Rattle.cost_functions.specs.Pieces.{value_at}
use Rattle.cost_functions.specs.declared.pieces.Piece.{Piece}
use Rattle.cost_functions.proofs.reduction.reduced.Given as goal

abbrev pub invariant-loop-piece : goal.invariant-loop-piece
invariant-loop-piece l = record {
  values : (t : ℕ) → value_at l.built t ≡ value_at (take l.piece-index l.pieces) t;
  ended : (d : Piece) → l.piece-index < length l.pieces → All (λ q. q.hi < (get_or l.pieces l.piece-index d).lo) l.built;
}
