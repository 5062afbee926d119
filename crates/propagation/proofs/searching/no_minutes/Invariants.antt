use Rattle.std.proofs.Common.{◌≡◌, All, length, List, []}
use Rattle.route_base.specs.declared.types.Run.{Run}
use Rattle.propagation.proofs.searching.no_minutes.Given as goal

abbrev pub invariant-loop-node : goal.invariant-loop-node
invariant-loop-node l = record {
  nodes : length l.all.items ≡ l._node;
  empty : All (λ (set : List Run). set ≡ []) l.all.items;
}
