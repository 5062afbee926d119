use Rattle.std.proofs.lemmas.Result.{err_from_is_err_and}
use Rattle.front_desk.proofs.Leaving.{ends_no_command, ends_words}
use Rattle.front_desk.proofs.commands.answer.Goals as goal

pub returns-in_err-command : goal.returns-in_err-command
returns-in_err-command g c =
    let p = err_from_is_err_and c.from_residual.result c.from_residual.ensures.1 in
    rw (p.1, p.2) (ends_no_command c.args.words.now (g.F.Folder.state c.args.folder.now) _ c.in_err-command.ensures.none)

pub returns : goal.returns
returns g c =
    ends_words c.args.words.now c.in_ok-command.command c.in_ok-command.ensures.command (g.F.Folder.state c.args.folder.now)
    (g.F.Folder.state c.report.new.folder) c.report.result c.report.ensures
