use Rattle.std.proofs.Common.{◌≡◌, ◌≤◌, ◌<◌, ◌+◌, ◌-◌, ◌&&◌, leb, Option, ℕ, All}
use Rattle.route_base.specs.Runs.{AreRuns}
use Rattle.cost_functions.specs.Pieces.{value_at}
use Rattle.cost_functions.specs.Building.{IsSettled}
use Rattle.route_base.specs.declared.limits.TheConstants.{LAST_INSTANT}
use Rattle.function_merge.specs.Least.{least_at, better_at}
use Rattle.function_merge.specs.Inside.Suffixes.{AreLeftFrom}
use Rattle.minute_sets.specs.Combination.{IsSwept}
use Rattle.function_merge.proofs.merging.merged_from.Given as goal

abbrev pub invariant-sweep : goal.invariant-sweep
invariant-sweep l = record {
  start : l.start ≤ l.from;
  settled : (wanted : ℕ → Option ℕ) → IsSettled wanted l.fn.before l.start → ((t : ℕ) → l.start ≤ t → wanted t ≡ least_at l.f l.g t)
      → IsSettled wanted l.built l.from;
  ended : All (λ p. p.hi < l.from) l.built;
  marked : IsSwept (λ t. leb l.start t && better_at l.f l.g t) l.improved l.from;
  runs : AreRuns l.improved;
  first : AreLeftFrom l.from l.left;
  second : AreLeftFrom l.from l.other;
  first_values : (t : ℕ) → l.from ≤ t → value_at l.left t ≡ value_at l.f t;
  second_values : (t : ℕ) → l.from ≤ t → value_at l.other t ≡ value_at l.g t;
}

abbrev pub decreases-sweep : goal.decreases-sweep
decreases-sweep l = LAST_INSTANT + 1 - l.from
