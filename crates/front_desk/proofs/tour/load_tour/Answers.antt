use Rattle.std.proofs.Common.{◌≡◌, None, ap, sym, subst, ◌∙◌}
use Rattle.std.proofs.lemmas.Result.{err_from_is_err_and}
use Rattle.route_base.specs.Contents.{Contents}
use Rattle.network_tables.specs.NetworkModel.{NetworkModel}
use Rattle.network_folder.specs.Faults.{StopsReading}
use Rattle.network_folder.specs.Files.{FileToRead, bytes_at}
use Rattle.network_folder.specs.ReadingOrder.{first_fault_with, network_held, stops_file}
use Rattle.front_desk.specs.Tour.{stops_bytes, stops_fault}
use Rattle.front_desk.proofs.Batches.{stops_first, second_counts, stops_second}
use Rattle.front_desk.proofs.tour.load_tour.Goals as goal

pub returns-in_err-network-clause-refused : goal.returns-in_err-network-clause-refused
returns-in_err-network-clause-refused g c =
    let old = g.F.Folder.state c.args.folder.now in
    let new = g.F.Folder.state c.load_with.new.folder in
    let t = c.args.tour.now in
    let p = err_from_is_err_and c.from_residual.result c.from_residual.ensures.1 in
    rw (p.1, p.2) (stops_first old new (λ (held : Contents). first_fault_with (stops_file t.stops) held t.dir)
    (λ (held : Contents). stops_fault (network_held held t.dir) (stops_bytes t held)) _
    (subst (λ (file : FileToRead). StopsReading (λ (held : Contents). first_fault_with file held t.dir) old new c.in_err-network.field-0.0)
    c.stops-table.ensures c.in_err-network.ensures.refused))

pub returns-in_err-stops-clause-refused : goal.returns-in_err-stops-clause-refused
returns-in_err-stops-clause-refused g c =
    let old = g.F.Folder.state c.args.folder.now in
    let new = g.F.Folder.state c.load_with.new.folder in
    let t = c.args.tour.now in
    let e = c.in_ok-network.ensures in
    let p = err_from_is_err_and c.from_residual-in_err-stops.result c.from_residual-in_err-stops.ensures.1 in
    rw (p.1, p.2) (stops_second old new (λ (held : Contents). first_fault_with (stops_file t.stops) held t.dir)
    (λ (held : Contents). stops_fault (network_held held t.dir) (stops_bytes t held)) (stops_fault c.in_ok-network.network c.as_slice.result.now)
    (λ held is. subst (λ (file : FileToRead). first_fault_with file held t.dir ≡ None) c.stops-table.ensures (e.faultless held is))
    (λ held is. ap (λ (n : NetworkModel). stops_fault n (stops_bytes t held)) (sym (e.found held is))
    ∙ ap (stops_fault c.in_ok-network.network) (sym (c.as_slice.ensures
    ∙ subst (λ (file : FileToRead). c.in_ok-network.bytes ≡ bytes_at held t.dir file) c.stops-table.ensures (e.last held is))))
    _ c.in_err-stops.ensures.refused)

pub returns-clause-faultless : goal.returns-clause-faultless
returns-clause-faultless g c =
    let old = g.F.Folder.state c.args.folder.now in
    let new = g.F.Folder.state c.load_with.new.folder in
    let t = c.args.tour.now in
    let e = c.in_ok-network.ensures in
    second_counts old new (λ (held : Contents). first_fault_with (stops_file t.stops) held t.dir)
    (λ (held : Contents). stops_fault (network_held held t.dir) (stops_bytes t held)) None
    (λ held is. subst (λ (file : FileToRead). first_fault_with file held t.dir ≡ None) c.stops-table.ensures (e.faultless held is))
    (λ held is. ap (λ (n : NetworkModel). stops_fault n (stops_bytes t held)) (sym (e.found held is))
    ∙ ap (stops_fault c.in_ok-network.network) (sym (c.as_slice.ensures
    ∙ subst (λ (file : FileToRead). c.in_ok-network.bytes ≡ bytes_at held t.dir file) c.stops-table.ensures (e.last held is)))
    ∙ c.in_ok-stops.ensures.faultless)
