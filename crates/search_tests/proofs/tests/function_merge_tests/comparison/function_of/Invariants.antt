use Rattle.std.proofs.Common.{◌<◌, ◌≤◌, All, AllPairs}
use Rattle.search_tests.proofs.tests.function_merge_tests.comparison.function_of.Given as goal

abbrev pub invariant-loop-t : goal.invariant-loop-t
invariant-loop-t l = record {
  rising : AllPairs (λ p q. p.0 < q.0) l.points.items;
  before : All (λ p. p.0 < l.t) l.points.items;
  costs : All (λ p. p.1 ≤ 1000) l.points.items;
}
