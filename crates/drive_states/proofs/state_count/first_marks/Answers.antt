use Rattle.std.proofs.Common.{refl}
use Rattle.route_base.specs.Net.{setting_of}
use Rattle.drive_states.proofs.Marked.{first_queued}
use Rattle.drive_states.proofs.state_count.first_marks.Goals as goal

pub returns : goal.returns
returns c = first_queued (setting_of c.args.plan.net.now) c.args.plan.origin.0 c.args.plan.rule _ c.mark.new.marks c.args.plan.origin.0 _ 0
    c.in_ok-mark.ensures c.new.ensures c.new-2.ensures c.in_ok-new.ensures refl refl refl refl c.requires.high
