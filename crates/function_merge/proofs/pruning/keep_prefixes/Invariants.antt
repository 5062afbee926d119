use Rattle.std.proofs.Common.{◌≡◌, ◌≤◌, ◌<◌, ℕ, length, take, get_or, All}
use Rattle.cost_functions.specs.Pieces.{value_at, ArePieces, AreSmallPieces}
use Rattle.cost_functions.specs.declared.pieces.Piece.{Piece}
use Rattle.function_merge.specs.Pruning.{IsPruned}
use Rattle.function_merge.specs.Inside.Prefixes.{HaveArrived}
use Rattle.function_merge.proofs.pruning.keep_prefixes.Given as goal

abbrev pub invariant-loop-i : goal.invariant-loop-i
invariant-loop-i l = record {
  within : l.kept ≤ l.i;
  size : length l.pieces ≡ length l.fn.pieces;
  others : (j : ℕ) (d : Piece) → l.i ≤ j → get_or l.pieces j d ≡ get_or l.fn.pieces j d;
  pieces : ArePieces (take l.kept l.pieces);
  small : AreSmallPieces (take l.kept l.pieces);
  pruned : IsPruned l.until l.pairs l.bound (value_at (take l.i l.fn.pieces)) (value_at (take l.kept l.pieces));
  count : l.arrived ≤ length l.pairs;
  arrived : (d : Piece) → l.i < length l.fn.pieces → HaveArrived l.bound (get_or l.fn.pieces l.i d).lo l.pairs l.arrived;
  ended : (d : Piece) → l.i < length l.fn.pieces → All (λ q. q.hi < (get_or l.fn.pieces l.i d).lo) (take l.kept l.pieces);
}
