use Rattle.std.proofs.Common.{◌≤◌, ℕ}
use Rattle.route_base.specs.Net.{setting_of}
use Rattle.ruled_bounds.specs.Inside.Reducing.{IsDearBy}
use Rattle.ruled_bounds.proofs.stop_sums.are_dear.Given as goal

abbrev pub invariant-loop-k : goal.invariant-loop-k
invariant-loop-k l = (a : ℕ) → 1 ≤ a → a ≤ l.k → IsDearBy l.price ((setting_of l.net).road a)
