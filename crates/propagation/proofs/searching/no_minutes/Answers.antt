use Rattle.std.proofs.Common.{◌≡◌, All, List, [], sym, subst, arith}
use Rattle.std.proofs.lemmas.List.Elements.{All-push}
use Rattle.route_base.specs.declared.types.Run.{Run}
use Rattle.propagation.proofs.Blanks.{all_idle}
use Rattle.propagation.proofs.searching.no_minutes.Goals as goal

pub loop-node-preserved : goal.loop-node-preserved
loop-node-preserved c = record {
  nodes = omega (arith, c.in_ok-push.ensures.len, c.push.new.self.ok.0, c.loop-node.all.ok.0, c.loop-node.invariant.nodes);
  empty = subst (All (λ (set : List Run). set ≡ [])) (sym c.in_ok-push.ensures.items)
      (All-push (λ (set : List Run). set ≡ []) c.loop-node.all.items c.empty.result c.loop-node.invariant.empty c.empty.ensures);
}

pub returns-clause-none : goal.returns-clause-none
returns-clause-none c = all_idle c.loop-node.all.items c.loop-node.invariant.empty
