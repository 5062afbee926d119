use Rattle.std.proofs.Common.{◌+◌, ◌≤◌, ℕ}
use Rattle.std.specs.List.{AllWithin}
use Rattle.cost_functions.specs.Lines.{line_at}
use Rattle.function_merge.specs.Rejection.{IsNoBetter}
use Rattle.function_merge.proofs.rejection.is_shown_no_better.Given as goal

-- the pieces that are passed are shown to be no better
abbrev pub invariant-loop-piece : goal.invariant-loop-piece
invariant-loop-piece l = AllWithin (λ p. (t : ℕ) → p.lo ≤ t → t ≤ p.hi → IsNoBetter l.f (t + l.minutes) (line_at p t + l.cost)) l.pieces 0 l.piece-index
