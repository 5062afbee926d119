use Rattle.std.proofs.Common.{◌≡◌, None, ap, sym, subst, ◌∙◌}
use Rattle.std.proofs.lemmas.Result.{err_from_is_err_and}
use Rattle.route_base.specs.Contents.{Contents}
use Rattle.network_folder.specs.ReadingOrder.{jobs_file}
use Rattle.front_desk.specs.Batch.{jobs_bytes, jobs_fault}
use Rattle.network_folder.specs.Files.{FileToRead, bytes_at}
use Rattle.network_folder.specs.Faults.{StopsReading}
use Rattle.network_folder.specs.ReadingOrder.{first_fault_with}
use Rattle.front_desk.proofs.Batches.{stops_first, second_counts, stops_second}
use Rattle.front_desk.proofs.batch.load_batch.Goals as goal

pub returns-in_err-network-clause-refused : goal.returns-in_err-network-clause-refused
returns-in_err-network-clause-refused g c =
    let old = g.F.Folder.state c.args.folder.now in
    let new = g.F.Folder.state c.load_with.new.folder in
    let b = c.args.batch.now in
    let p = err_from_is_err_and c.from_residual.result c.from_residual.ensures.1 in
    rw (p.1, p.2) (stops_first old new (λ (held : Contents). first_fault_with (jobs_file b.jobs) held b.dir)
    (λ (held : Contents). jobs_fault (jobs_bytes b held)) _
    (subst (λ (file : FileToRead). StopsReading (λ (held : Contents). first_fault_with file held b.dir) old new c.in_err-network.field-0.0)
    c.jobs-table.ensures c.in_err-network.ensures.refused))

pub returns-in_err-jobs-clause-refused : goal.returns-in_err-jobs-clause-refused
returns-in_err-jobs-clause-refused g c =
    let old = g.F.Folder.state c.args.folder.now in
    let new = g.F.Folder.state c.load_with.new.folder in
    let b = c.args.batch.now in
    let e = c.in_ok-network.ensures in
    let p = err_from_is_err_and c.from_residual-in_err-jobs.result c.from_residual-in_err-jobs.ensures.1 in
    rw (p.1, p.2) (stops_second old new (λ (held : Contents). first_fault_with (jobs_file b.jobs) held b.dir)
    (λ (held : Contents). jobs_fault (jobs_bytes b held)) (jobs_fault c.as_slice.result.now)
    (λ held is. subst (λ (file : FileToRead). first_fault_with file held b.dir ≡ None) c.jobs-table.ensures (e.faultless held is))
    (λ held is. ap jobs_fault (sym (c.as_slice.ensures
    ∙ subst (λ (file : FileToRead). c.in_ok-network.bytes ≡ bytes_at held b.dir file) c.jobs-table.ensures (e.last held is))))
    _ c.in_err-jobs.ensures.refused)

pub returns-clause-faultless : goal.returns-clause-faultless
returns-clause-faultless g c =
    let old = g.F.Folder.state c.args.folder.now in
    let new = g.F.Folder.state c.load_with.new.folder in
    let b = c.args.batch.now in
    let e = c.in_ok-network.ensures in
    second_counts old new (λ (held : Contents). first_fault_with (jobs_file b.jobs) held b.dir)
    (λ (held : Contents). jobs_fault (jobs_bytes b held)) None
    (λ held is. subst (λ (file : FileToRead). first_fault_with file held b.dir ≡ None) c.jobs-table.ensures (e.faultless held is))
    (λ held is. ap jobs_fault (sym (c.as_slice.ensures
    ∙ subst (λ (file : FileToRead). c.in_ok-network.bytes ≡ bytes_at held b.dir file) c.jobs-table.ensures (e.last held is)))
    ∙ c.in_ok-jobs.ensures.faultless)
