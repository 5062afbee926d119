use Rattle.std.proofs.Common.{◌+◌, ◌-◌, ◌*◌, length}
use Rattle.route_base.specs.Net.{setting_of}
use Rattle.drive_states.specs.Inside.StateMarks.{AreQueued}
use Rattle.drive_states.proofs.state_count.mark_all.Given as goal

abbrev pub invariant-nodes : goal.invariant-nodes
invariant-nodes l = AreQueued (setting_of l.plan.net.now) l.plan.origin.0 l.plan.rule l.marks

abbrev pub decreases-nodes : goal.decreases-nodes
decreases-nodes l = 1441 * (l.plan.net.now.nodes + 1) + length l.marks.queue - l.marks.count
