use Rattle.std.proofs.Common.{◌+◌, List, ℕ, sym, ◌∙◌, subst}
use Rattle.route_base.specs.declared.types.TimedArc.{TimedArc}
use Rattle.ban_expansion.specs.Inside.GroupedNets.{AreTimed, IsTimedArc}
use Rattle.ban_expansion.proofs.TimedNets.{timed_next}
use Rattle.ban_expansion.proofs.expansion.timed_arcs.Goals as goal

pub loop-k-preserved : goal.loop-k-preserved
loop-k-preserved c =
    let network = c.args.network.now in
    let groups = c.args.groups.now.groups in
    let timed = subst (λ (gs : List ℕ). IsTimedArc network gs c.loop-k.k c.timed_at.result) c.groups-of_arcs.ensures c.timed_at.ensures in
    record {
      room = c.push_reserved.ensures.capacity ∙ c.loop-k.invariant.room;
      timed = subst (λ (arcs : List TimedArc). AreTimed network groups (c.loop-k.k + 1) arcs) (sym c.push_reserved.ensures.items)
          (timed_next network groups c.loop-k.k c.loop-k.arcs.items c.timed_at.result c.loop-k.invariant.timed timed);
    }
