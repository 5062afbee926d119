use Rattle.std.proofs.Common.{◌≡◌, ◌≤◌, ◌<◌, ◌+◌, ◌-◌, false, ℕ}
use Rattle.cost_functions.specs.Pieces.{value_at}
use Rattle.route_base.specs.declared.limits.TheConstants.{LAST_INSTANT}
use Rattle.function_merge.specs.Least.{better_at}
use Rattle.function_merge.specs.Inside.Suffixes.{AreLeftFrom}
use Rattle.function_merge.proofs.merging.better_from.Given as goal

abbrev pub invariant-sweep : goal.invariant-sweep
invariant-sweep l = record {
  first : AreLeftFrom l.from l.left;
  second : AreLeftFrom l.from l.other;
  first_values : (t : ℕ) → l.from ≤ t → value_at l.left t ≡ value_at l.f t;
  second_values : (t : ℕ) → l.from ≤ t → value_at l.other t ≡ value_at l.g t;
  start : l.start ≤ l.from;
  none : (t : ℕ) → l.start ≤ t → t < l.from → better_at l.f l.g t ≡ false;
}

abbrev pub decreases-sweep : goal.decreases-sweep
decreases-sweep l = LAST_INSTANT + 1 - l.from
