use Rattle.std.proofs.Common.{◌≡◌, All, length}
use Rattle.search_tests.specs.SmallNets.{IsLight}
use Rattle.search_tests.proofs.tests.engines.nets.parks_of.Given as goal

abbrev pub invariant-loop-v : goal.invariant-loop-v
invariant-loop-v l = record {
  light : All (IsLight l.lists) l.parks.items;
  all : length l.parks.items ≡ l.v;
}
