use Rattle.std.proofs.Common.{◌<◌, ◌≤◌, ◌+◌, ◌*◌, All}
use Rattle.route_base.specs.Front.{RiseAndFall}
use Rattle.search_tests.proofs.tests.function_merge_tests.comparison.random_pairs.Given as goal

abbrev pub invariant-pairs : goal.invariant-pairs
invariant-pairs l = record {
  trade : RiseAndFall l.pairs.items;
  behind : All (λ p. (p.arrival < l.arrival) × (l.cost < p.cost)) l.pairs.items;
  bound : l.arrival + 6 * l.cost ≤ 504;
}

abbrev pub decreases-pairs : goal.decreases-pairs
decreases-pairs l = l.cost
