use Rattle.std.proofs.Common.{inr, ℕ, List, length, ap, subst, arith}
use Rattle.std.specs.Prelude.{Contains}
use Rattle.route_base.specs.Net.{setting_of}
use Rattle.drive_states.proofs.Marked.{all_settled, marks_few, opened}
use Rattle.drive_states.proofs.state_count.mark_all.Goals as goal

pub visit_node-requires-clause-queued : goal.visit_node-requires-clause-queued
visit_node-requires-clause-queued c = opened (setting_of c.args.plan.net.now) c.args.plan.origin.0 c.args.plan.rule c.nodes.marks.rows c.nodes.marks.done c.nodes.marks.queue
    c.pop.new.self c.nodes.marks.count c.in-Some.v c.in-Some.ensures c.nodes.invariant

pub nodes-smaller : goal.nodes-smaller
nodes-smaller c = omega (
  arith,
  ap (λ (w : List ℕ). length w) c.in-Some.ensures,
  c.in_ok-visit_node.ensures.paid,
  marks_few (setting_of c.args.plan.net.now) c.args.plan.origin.0 c.args.plan.rule c.nodes.marks c.requires.drive c.nodes.invariant.facts,
  marks_few (setting_of c.args.plan.net.now) c.args.plan.origin.0 c.args.plan.rule c.visit_node.new.marks c.requires.drive
      c.in_ok-visit_node.ensures.queued.facts,
)

pub returns : goal.returns
returns c = record {
  facts = record {
    each = c.nodes.invariant.facts.each;
    first = c.nodes.invariant.facts.first;
    count = c.nodes.invariant.facts.count;
    some = λ v one. absurd (omega (arith, (subst (λ (w : List ℕ). Contains w v) c.in_default.ensures.1 one).1));
  };
  all = inr (all_settled (setting_of c.args.plan.net.now) c.args.plan.origin.0 c.args.plan.rule c.nodes.marks c.nodes.invariant
      (λ v one. omega (arith, (subst (λ (w : List ℕ). Contains w v) c.in_default.ensures.0 one).1)));
}
