use Rattle.std.proofs.Common.{◌≡◌, ◌<◌, ◌≤◌, ℕ, length, take, get_or, All}
use Rattle.route_base.specs.Runs.{any_has, AreRuns}
use Rattle.route_base.specs.declared.types.Run.{Run}
use Rattle.minute_sets.proofs.merge.merged.Given as goal

abbrev pub invariant-loop-run : goal.invariant-loop-run
invariant-loop-run l = record {
  runs : AreRuns l.merged.items;
  begins : (d : Run) → l.run-index < length l.runs → All (λ r. r.lo ≤ (get_or l.runs l.run-index d).lo) l.merged.items;
  minutes : (t : ℕ) → any_has l.merged.items t ≡ any_has (take l.run-index l.runs) t;
}
