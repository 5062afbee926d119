use Rattle.std.proofs.Common.{length}
use Rattle.cost_functions.specs.Pieces.{ArePieces, IsReduced}
use Rattle.cost_functions.proofs.reduction.are_reduced.Given as goal

abbrev pub invariant-pairs : goal.invariant-pairs
invariant-pairs l = record {
  pieces : ArePieces l.left;
  whole : IsReduced l.left → IsReduced l.pieces;
  part : IsReduced l.pieces → IsReduced l.left;
}

abbrev pub decreases-pairs : goal.decreases-pairs
decreases-pairs l = length l.left
