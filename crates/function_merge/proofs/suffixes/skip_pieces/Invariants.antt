use Rattle.std.proofs.Common.{◌≡◌, ◌≤◌, ℕ, length}
use Rattle.cost_functions.specs.Pieces.{value_at, ArePieces, AreSmallPieces}
use Rattle.function_merge.proofs.suffixes.skip_pieces.Given as goal

abbrev pub invariant-skip : goal.invariant-skip
invariant-skip l = record {
  pieces : ArePieces l.left;
  small : AreSmallPieces l.left;
  values : (t : ℕ) → l.from ≤ t → value_at l.left t ≡ value_at l.pieces t;
}

abbrev pub decreases-skip : goal.decreases-skip
decreases-skip l = length l.left
