use Rattle.std.proofs.Common.{◌≤◌, ◌<◌, length, take, get_or, All}
use Rattle.cost_functions.specs.Pieces.{value_at}
use Rattle.cost_functions.specs.declared.pieces.Piece.{Piece}
use Rattle.function_merge.specs.Pruning.{IsPruned}
use Rattle.function_merge.specs.Inside.Prefixes.{HaveArrived}
use Rattle.function_merge.proofs.pruning.prune.Given as goal

abbrev pub invariant-loop-piece : goal.invariant-loop-piece
invariant-loop-piece l = record {
  pruned : IsPruned l.until l.pairs l.bound (value_at (take l.piece-index l.piece-items)) (value_at l.built);
  count : l.arrived ≤ length l.pairs;
  arrived : (d : Piece) → l.piece-index < length l.piece-items → HaveArrived l.bound (get_or l.piece-items l.piece-index d).lo l.pairs l.arrived;
  ended : (d : Piece) → l.piece-index < length l.piece-items → All (λ q. q.hi < (get_or l.piece-items l.piece-index d).lo) l.built;
}
