use Rattle.std.proofs.Common.{List, ℕ, subst, arith}
use Rattle.std.proofs.lemmas.Result.{IfOk-weaker}
use Rattle.route_base.specs.Net.{setting_of}
use Rattle.drive_states.specs.Inside.BitRows.{IsTrimmed, TakesFresh, row_of}
use Rattle.drive_states.proofs.Marked.{begun, marks_few, node_within, visited}
use Rattle.drive_states.proofs.state_count.visit_node.Goals as goal

pub drive_on-requires-clause-facts : goal.drive_on-requires-clause-facts
drive_on-requires-clause-facts c =
    begun (setting_of c.args.plan.net.now) c.args.plan.origin.0 c.args.plan.rule c.args.marks.now.rows c.args.marks.now.done c.take.new.self
    c.args.marks.now.queue c.args.marks.now.count c.args.v.0 _ _ _ (subst (λ (w : List ℕ). TakesFresh (row_of c.args.marks.now.done c.args.v.0)
    (row_of c.take.new.self c.args.v.0) w c.take.new.fresh.items) c.row.ensures c.in_ok-take.ensures.took) c.in_ok-take.ensures.others
    (subst (λ (w : List ℕ). IsTrimmed w c.trimmed-first.result.0.now c.trimmed-first.result.1) c.as_slice.ensures.value c.trimmed-first.ensures.part)
    c.requires.queued

pub rest_at-requires-clause-low : goal.rest_at-requires-clause-low
rest_at-requires-clause-low c = (node_within c.args.plan.net.now c.args.plan.origin.0 c.args.plan.rule.drive c.args.v.0 _
    c.node_count-nodes.ensures.good (c.requires.low, c.requires.high) (c.requires.queued.facts.each c.args.v.0 _ c.requires.queued.some.1)).0

pub rest_at-requires-clause-high : goal.rest_at-requires-clause-high
rest_at-requires-clause-high c = (node_within c.args.plan.net.now c.args.plan.origin.0 c.args.plan.rule.drive c.args.v.0 _
    c.node_count-nodes.ensures.good (c.requires.low, c.requires.high) (c.requires.queued.facts.each c.args.v.0 _ c.requires.queued.some.1)).1

pub rest_at-requires-clause-room : goal.rest_at-requires-clause-room
rest_at-requires-clause-room c = omega (
  arith,
  c.node_count-nodes.ensures.good.nodes,
  marks_few (setting_of c.args.plan.net.now) c.args.plan.origin.0 c.args.plan.rule c.drive_on.new.marks c.requires.drive
      c.in_ok-drive_on.ensures.facts.facts,
)

pub returns : goal.returns
returns c = IfOk-weaker c.rest_at.result _ _ (λ _ takes.
    visited c.args.plan.net.now c.args.plan.outgoing.now c.args.plan.origin.0 c.args.plan.rule c.args.v.0 _ _ c.args.marks.now c.drive_on.new.marks
    c.rest_at.new.marks c.requires.outgoing c.in_ok-drive_on.ensures.facts c.in_ok-drive_on.ensures.paid takes) c.rest_at.ensures
