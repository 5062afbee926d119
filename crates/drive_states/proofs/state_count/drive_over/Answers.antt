use Rattle.std.proofs.Common.{sym, ◌∙◌}
use Rattle.std.proofs.lemmas.Result.{IfOk-weaker}
use Rattle.drive_states.proofs.Marked.{drive_takes}
use Rattle.drive_states.proofs.state_count.drive_over.Goals as goal

pub returns : goal.returns
returns c = IfOk-weaker c.mark.result _ _ (λ _ marked.
    drive_takes c.args.plan.net.now c.args.plan.origin.0 c.args.plan.rule c.args.visit.node.0 c.args.visit.row.now c.args.visit.first c.args.a c.in-Some.arc c.args.marks.now
    c.mark.new.marks (sym c.arc.ensures.value ∙ c.in-Some.is) c.requires.tail c.in-Some.ensures.good marked) c.mark.ensures
