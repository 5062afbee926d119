use Rattle.std.proofs.Common.{◌≤◌, ℕ}
use Rattle.certificate_check.specs.Inside.Steps.{AreDrivesRelaxedIn}
use Rattle.certificate_check.proofs.steps.are_drives_relaxed.Given as goal

abbrev pub invariant-loop-k : goal.invariant-loop-k
invariant-loop-k l = (a : ℕ) → 1 ≤ a → a ≤ l.k → AreDrivesRelaxedIn l.trial a
