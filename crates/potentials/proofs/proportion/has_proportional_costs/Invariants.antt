use Rattle.std.proofs.Common.{◌≤◌, ℕ}
use Rattle.route_base.specs.Net.{setting_of}
use Rattle.potentials.specs.Proportion.{IsProportional}
use Rattle.potentials.proofs.proportion.has_proportional_costs.Given as goal

abbrev pub invariant-loop-k : goal.invariant-loop-k
invariant-loop-k l = (a : ℕ) → 1 ≤ a → a ≤ l.k → IsProportional ((setting_of l.net).road a)
