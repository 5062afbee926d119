use Rattle.std.proofs.Common.{take}
use Rattle.route_base.specs.Net.{setting_of}
use Rattle.drive_states.specs.Inside.StateMarks.{IsVisiting, IsPaid}
use Rattle.drive_states.specs.Inside.StateSearch.{drives_over}
use Rattle.drive_states.proofs.state_count.drive_on.Given as goal

abbrev pub invariant-loop-a : goal.invariant-loop-a
invariant-loop-a l = record {
  facts : IsVisiting (setting_of l.plan.net.now) l.plan.origin.0 l.plan.rule l.visit.node.0 l.visit.row.now l.visit.first (drives_over (take l.a-index l.a-items)) l.marks;
  paid : IsPaid l.initial.marks l.marks;
}
