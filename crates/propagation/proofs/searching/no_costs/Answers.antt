use Rattle.std.proofs.Common.{◌≡◌, All, List, [], sym, subst, arith}
use Rattle.std.proofs.lemmas.List.Elements.{All-push}
use Rattle.cost_functions.specs.declared.pieces.Piece.{Piece}
use Rattle.propagation.proofs.Blanks.{all_none, empty_built}
use Rattle.propagation.proofs.searching.no_costs.Goals as goal

pub loop-node-preserved : goal.loop-node-preserved
loop-node-preserved c = record {
  nodes = omega (arith, c.in_ok-push.ensures.len, c.push.new.self.ok.0, c.loop-node.all.ok.0, c.loop-node.invariant.nodes);
  empty = subst (All (λ (f : List Piece). f ≡ [])) (sym c.in_ok-push.ensures.items)
      (All-push (λ (f : List Piece). f ≡ []) c.loop-node.all.items c.empty.result c.loop-node.invariant.empty c.empty.ensures);
}

pub returns-clause-none : goal.returns-clause-none
returns-clause-none c = all_none c.loop-node.all.items c.loop-node.invariant.empty

pub returns-clause-built : goal.returns-clause-built
returns-clause-built c = empty_built c.loop-node.all.items c.loop-node.invariant.empty
