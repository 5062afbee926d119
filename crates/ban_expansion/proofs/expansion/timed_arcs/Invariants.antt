use Rattle.std.proofs.Common.{◌≡◌}
use Rattle.ban_expansion.specs.Inside.GroupedNets.{AreTimed}
use Rattle.ban_expansion.proofs.expansion.timed_arcs.Given as goal

abbrev pub invariant-loop-k : goal.invariant-loop-k
invariant-loop-k l = record {
  room : l.arcs.cap ≡ l.count;
  timed : AreTimed l.network l.groups.groups l.k l.arcs.items;
}
