use Rattle.std.proofs.Common.{◌≡◌, ◌≤◌, ℕ, length}
use Rattle.route_base.specs.Runs.{any_has, AreRuns}
use Rattle.minute_sets.proofs.FreeMinutes.{HasEntries}
use Rattle.minute_sets.proofs.entries.entries_of.Given as goal

abbrev pub invariant-gaps : goal.invariant-gaps
invariant-gaps l = record {
  entries : HasEntries l.runs l.window l.minutes l.entries l.from;
  left : AreRuns l.left;
  same : (t : ℕ) → l.from ≤ t → any_has l.left t ≡ any_has l.runs t;
  begun : l.window.lo ≤ l.from;
}

abbrev pub decreases-gaps : goal.decreases-gaps
decreases-gaps l = length l.left
