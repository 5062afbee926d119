use Rattle.std.proofs.Common.{◌≡◌}
use Rattle.route_base.specs.Net.{setting_of}
use Rattle.drive_states.specs.Inside.BitRows.{sum_below}
use Rattle.drive_states.specs.Inside.StateMarks.{rests_by}
use Rattle.drive_states.proofs.state_count.rest_count.Given as goal

abbrev pub invariant-loop-v : goal.invariant-loop-v
invariant-loop-v l = l.count ≡ sum_below (λ v. rests_by l.rows l.plan.rule.drive v ((setting_of l.plan.net.now).weight v)) l.v
