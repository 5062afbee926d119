use Rattle.std.proofs.Common.{List, ℕ, subst}
use Rattle.route_base.specs.declared.status.Status.{Status}
use Rattle.front_desk.specs.Inside.Ending.{Writes, status_of_report}
use Rattle.front_desk.specs.Run.{status_of}
use Rattle.plan_report.specs.Refusals.{refusal_text_of}
use Rattle.front_desk.proofs.RefusalTexts.{refusal_due}
use Rattle.front_desk.proofs.Running.{runs_printed}
use Rattle.front_desk.proofs.desk.run_gated.Goals as goal

pub returns-in-Ok : goal.returns-in-Ok
returns-in-Ok g c =
    let old = g.F.Folder.state c.args.folder.now in
    let new = g.F.Folder.state c.answer.new.folder in
    let from = g.S.Sink.state c.args.out.now in
    let to = g.S.Sink.state c.put.new.out in
    let e = c.in-Ok.ensures in
    let text = c.in-Ok.report.text.items in
    let put : Writes (status_of_report c.in-Ok.report) from to text c.put.result =
    subst (λ (due : Status). Writes due from to text c.put.result) c.status.ensures
    (subst (λ (bytes : List ℕ). Writes c.status.result from to bytes c.put.result) c.as_slice.ensures.value c.put.ensures) in
    runs_printed c.args.words.now old new from to (status_of_report c.in-Ok.report) text e.concludes e.counts e.left c.put.result put

pub returns-in-Err-Refused : goal.returns-in-Err-Refused
returns-in-Err-Refused g c =
    let old = g.F.Folder.state c.args.folder.now in
    let new = g.F.Folder.state c.answer.new.folder in
    let refusal = c.in-Err-Refused.refusal in
    let e = rw c.in-Err-Refused.field-0-is at c.in-Err-Refused.ensures in
    runs_printed c.args.words.now old new (g.S.Sink.state c.args.out.now) (g.S.Sink.state c.refuse.new.out) (status_of refusal) (refusal_text_of refusal)
    (refusal_due c.args.words.now old new refusal e.concludes) e.counts e.left c.refuse.result c.refuse.ensures
