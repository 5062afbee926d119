use Rattle.std.proofs.Common.{map, refl, ◌∙◌}
use Rattle.std.proofs.lemmas.Result.{err_from_is_err_and}
use Rattle.network_folder.specs.Writing.{written_in}
use Rattle.front_desk.proofs.Drawn.{ends_drawn, ends_undrawn, ends_unwritten}
use Rattle.front_desk.proofs.generation.report_gen.Goals as goal

pub returns-in_err-drawn : goal.returns-in_err-drawn
returns-in_err-drawn g c =
    let p = err_from_is_err_and c.from_residual.result c.from_residual.ensures.1 in
    rw (p.1, p.2) (ends_undrawn c.args.grid.now (g.F.Folder.state c.args.folder.now))

pub returns-in_err-put_each : goal.returns-in_err-put_each
returns-in_err-put_each g c =
    let p = err_from_is_err_and c.from_residual-in_err-put_each.result c.from_residual-in_err-put_each.ensures.1 in
    rw (p.1, p.2) (ends_unwritten c.args.grid.now (g.F.Folder.state c.args.folder.now) (g.F.Folder.state c.put_each.new.folder)
    c.put_each.ensures.counts (map written_in c.files_of-files.result) (c.files_of-files.ensures ∙ c.in_ok-drawn.ensures.files) _
    c.in_err-put_each.ensures.unwritten)

pub returns : goal.returns
returns g c =
    ends_drawn c.args.grid.now (g.F.Folder.state c.args.folder.now) (g.F.Folder.state c.put_each.new.folder) c.put_each.ensures.counts
    (map written_in c.files_of-files.result) (c.files_of-files.ensures ∙ c.in_ok-drawn.ensures.files) _ refl c.in_ok-drawn.ensures.summary
    c.in_ok-put_each.ensures.written
