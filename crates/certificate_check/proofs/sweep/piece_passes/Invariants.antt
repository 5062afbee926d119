use Rattle.std.proofs.Common.{◌+◌, ◌-◌, ◌<◌, ◌≤◌, ℕ}
use Rattle.cost_functions.specs.Lines.{line_at}
use Rattle.certificate_check.specs.Inside.Passing.{Passes, link_of}
use Rattle.certificate_check.proofs.sweep.piece_passes.Given as goal

abbrev pub invariant-sweep : goal.invariant-sweep
invariant-sweep l = record {
  from : l.piece.lo ≤ l.from;
  passed : (t : ℕ) → l.piece.lo ≤ t → t < l.from → t ≤ l.piece.hi → Passes l.until l.pairs (link_of l.passage) t (line_at l.piece t);
}

abbrev pub decreases-sweep : goal.decreases-sweep
decreases-sweep l = l.piece.hi + 1 - l.from
