use Rattle.std.proofs.Common.{take, List, sym, subst, arith}
use Rattle.std.proofs.lemmas.List.{map_more}
use Rattle.route_base.specs.Net.{setting_of}
use Rattle.route_base.specs.declared.types.ArcId.{ArcId}
use Rattle.route_base.specs.declared.types.Leg.{Leg}
use Rattle.route_base.specs.declared.types.Leg.TheVariants.{Drive}
use Rattle.drive_states.specs.Inside.StateMarks.{IsVisiting}
use Rattle.drive_states.specs.Inside.StateSearch.{drives_over}
use Rattle.drive_states.proofs.LeavingArcs.{leaves, none}
use Rattle.drive_states.proofs.Marked.{marks_few}
use Rattle.drive_states.proofs.state_count.drive_on.Goals as goal

pub drive_over-requires-clause-tail : goal.drive_over-requires-clause-tail
unfolding none
drive_over-requires-clause-tail c =
    leaves c.args.plan.net.now _ c.requires.outgoing c.args.visit.node.0 _ c.of-a-items.ensures c.loop-a.a-index c.loop-a-test.true

pub drive_over-requires-clause-room : goal.drive_over-requires-clause-room
drive_over-requires-clause-room c = omega (
  arith,
  c.node_count-nodes.ensures.good.nodes,
  marks_few (setting_of c.args.plan.net.now) c.args.plan.origin.0 c.args.plan.rule c.loop-a.marks c.requires.drive c.loop-a.invariant.facts.facts,
)

pub loop-a-preserved : goal.loop-a-preserved
unfolding none
loop-a-preserved c =
    let arcs : List ArcId = c.of-a-items.result.now in
    let s = setting_of c.args.plan.net.now in
    record {
      facts = subst (λ (w : List Leg). IsVisiting s c.args.plan.origin.0 c.args.plan.rule c.args.visit.node.0 c.args.visit.row.now c.args.visit.first w c.drive_over.new.marks)
          (sym (map_more (λ a. Drive a) arcs c.loop-a.a-index none c.loop-a-test.true))
          (c.in_ok-drive_over.ensures.keeps (drives_over (take c.loop-a.a-index arcs)) c.loop-a.invariant.facts);
      paid = omega (arith, c.in_ok-drive_over.ensures.paid, c.loop-a.invariant.paid);
    }
