use Rattle.std.proofs.Common.{◌≡◌, All, length, List, []}
use Rattle.cost_functions.specs.declared.pieces.Piece.{Piece}
use Rattle.propagation.proofs.searching.no_costs.Given as goal

abbrev pub invariant-loop-node : goal.invariant-loop-node
invariant-loop-node l = record {
  nodes : length l.all.items ≡ l._node;
  empty : All (λ (f : List Piece). f ≡ []) l.all.items;
}
