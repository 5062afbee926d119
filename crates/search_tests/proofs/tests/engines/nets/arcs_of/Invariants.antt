use Rattle.std.proofs.Common.{◌≤◌, All, length}
use Rattle.search_tests.specs.SmallNets.{IsSmallArc}
use Rattle.search_tests.proofs.tests.engines.nets.arcs_of.Given as goal

abbrev pub invariant-loop-arc : goal.invariant-loop-arc
invariant-loop-arc l = record {
  small : All (IsSmallArc l.nodes l.lists) l.arcs.items;
  few : length l.arcs.items ≤ 100;
}
