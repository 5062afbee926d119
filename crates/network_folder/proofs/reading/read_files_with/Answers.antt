use Rattle.std.proofs.Common.{[], ◌∙◌}
use Rattle.std.proofs.lemmas.Result.{err_from_is_err_and}
use Rattle.network_folder.specs.Files.{file_in}
use Rattle.network_folder.specs.ReadingOrder.{network_files}
use Rattle.network_folder.proofs.ReadFiles.{readable_more, stops_at, stops_before}
use Rattle.network_folder.proofs.reading.read_files_with.Goals as goal

pub returns-in_err-files-clause-refused : goal.returns-in_err-files-clause-refused
returns-in_err-files-clause-refused g c =
    let p = err_from_is_err_and c.from_residual.result c.from_residual.ensures.1 in
    rw (p.1, p.2) (stops_before _ _ c.args.dir.now network_files _ _ c.in_err-files.ensures.refused)

pub returns-in_err-bytes-clause-refused : goal.returns-in_err-bytes-clause-refused
returns-in_err-bytes-clause-refused g c =
    let p = err_from_is_err_and c.from_residual-in_err-bytes.result c.from_residual-in_err-bytes.ensures.1 in
    rw (p.1, p.2) (stops_at _ _ c.read_network_files.ensures.kept c.args.dir.now network_files (file_in c.args.last) [] _ _ c.in_ok-files.ensures.readable
    c.in_err-bytes.ensures.refused)

pub returns-clause-last : goal.returns-clause-last
returns-clause-last g c = λ held told. c.in_ok-bytes.ensures.read.told held (c.read_network_files.ensures.kept.contents ∙ told)

pub returns-clause-readable : goal.returns-clause-readable
returns-clause-readable g c = λ held told.
    readable_more held c.args.dir.now network_files (file_in c.args.last) (c.in_ok-files.ensures.readable held told)
    (c.in_ok-bytes.ensures.read.faultless held (c.read_network_files.ensures.kept.contents ∙ told))
