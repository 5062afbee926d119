use Rattle.std.proofs.Common.{◌≡◌, ◌+◌}
use Rattle.route_base.specs.Net.{setting_of}
use Rattle.drive_states.specs.Inside.BitRows.{sum_below}
use Rattle.drive_states.specs.Inside.StateMarks.{drives_by}
use Rattle.drive_states.proofs.state_count.drive_count.Given as goal

abbrev pub invariant-loop-arc : goal.invariant-loop-arc
invariant-loop-arc l = l.count ≡ sum_below (λ a. drives_by l.rows l.plan.rule.drive ((setting_of l.plan.net.now).road a)) (l.arc-index + 1)
