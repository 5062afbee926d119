use Rattle.std.proofs.Common.{◌≤◌, ℕ}
use Rattle.certificate_check.specs.Inside.Steps.{AreWaitsRelaxedIn}
use Rattle.certificate_check.proofs.steps.are_waits_relaxed.Given as goal

abbrev pub invariant-loop-k : goal.invariant-loop-k
invariant-loop-k l = (v : ℕ) → 1 ≤ v → v ≤ l.k → AreWaitsRelaxedIn l.trial v
