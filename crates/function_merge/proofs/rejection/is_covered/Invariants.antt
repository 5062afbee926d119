use Rattle.std.proofs.Common.{◌≡◌, ◌+◌, ◌<◌, ◌≤◌, ℕ, All, length}
use Rattle.cost_functions.specs.Lines.{line_at}
use Rattle.cost_functions.specs.Pieces.{value_at, ArePieces}
use Rattle.function_merge.specs.Rejection.{IsNoBetter}
use Rattle.function_merge.proofs.rejection.is_covered.Given as goal

abbrev pub invariant-cover : goal.invariant-cover
invariant-cover l = record {
  count : l.looked ≤ 4;
  low : l.piece.lo ≤ l.from;
  high : l.from ≤ l.piece.hi;
  pieces : ArePieces l.left;
  reach : All (λ p. l.from + l.minutes ≤ p.hi) l.left;
  values : (t : ℕ) → l.from + l.minutes ≤ t → value_at l.left t ≡ value_at l.f t;
  shown : (t : ℕ) → l.piece.lo ≤ t → t < l.from → IsNoBetter l.f (t + l.minutes) (line_at l.piece t + l.cost);
}

abbrev pub decreases-cover : goal.decreases-cover
decreases-cover l = length l.left
