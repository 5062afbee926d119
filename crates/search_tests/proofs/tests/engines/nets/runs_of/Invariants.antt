use Rattle.std.proofs.Common.{◌≤◌, All}
use Rattle.route_base.specs.Runs.{AreRuns}
use Rattle.search_tests.proofs.tests.engines.nets.runs_of.Given as goal

abbrev pub invariant-loop-place : goal.invariant-loop-place
invariant-loop-place l = record {
  runs : AreRuns l.runs.items;
  behind : All (λ r. r.hi ≤ l.end) l.runs.items;
}
