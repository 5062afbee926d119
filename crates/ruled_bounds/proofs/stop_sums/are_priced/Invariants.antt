use Rattle.std.proofs.Common.{◌≤◌, ℕ}
use Rattle.route_base.specs.Net.{setting_of}
use Rattle.ruled_bounds.specs.Inside.Reducing.{IsPricedBy}
use Rattle.ruled_bounds.proofs.stop_sums.are_priced.Given as goal

abbrev pub invariant-loop-k : goal.invariant-loop-k
invariant-loop-k l = (v : ℕ) → 1 ≤ v → v ≤ l.k → IsPricedBy l.price ((setting_of l.net).weight v)
