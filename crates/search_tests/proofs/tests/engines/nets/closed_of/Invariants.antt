use Rattle.std.proofs.Common.{◌≡◌, All, length}
use Rattle.route_base.specs.Runs.{AreRuns}
use Rattle.search_tests.proofs.tests.engines.nets.closed_of.Given as goal

abbrev pub invariant-loop-list : goal.invariant-loop-list
invariant-loop-list l = record {
  runs : All (λ v. AreRuns v.items) l.closed.items;
  all : length l.closed.items ≡ l.list;
}
