use Rattle.std.proofs.Common.{◌≡◌, ◌+◌, ◌≤◌, ℕ, length}
use Rattle.route_base.specs.Runs.{any_has, AreRuns}
use Rattle.cost_functions.specs.Pieces.{value_at, ArePieces}
use Rattle.function_merge.specs.Moves.{kept_at, moved_at}
use Rattle.function_merge.specs.Inside.Prefixes.{HaveArrived, IsPrunedUpTo}
use Rattle.function_merge.proofs.clearing.shift_over_runs.Given as goal

abbrev pub invariant-sweep : goal.invariant-sweep
invariant-sweep l = record {
  pruned : IsPrunedUpTo l.until l.pairs l.bound (moved_at l.minutes l.cost (kept_at l.pieces l.runs)) l.built (l.from + l.minutes);
  count : l.arrived ≤ length l.pairs;
  arrived : HaveArrived l.bound (l.from + l.minutes) l.pairs l.arrived;
  pieces : ArePieces l.left;
  runs : AreRuns l.open;
  values : (t : ℕ) → l.from ≤ t → value_at l.left t ≡ value_at l.pieces t;
  minutes : (t : ℕ) → l.from ≤ t → any_has l.open t ≡ any_has l.runs t;
}

abbrev pub decreases-sweep : goal.decreases-sweep
decreases-sweep l = length l.left + length l.open
