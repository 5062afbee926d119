use Rattle.std.proofs.Common.{◌≡◌, None, ap, sym, subst, ◌∙◌}
use Rattle.std.proofs.lemmas.Result.{err_from_is_err_and}
use Rattle.route_base.specs.Contents.{Contents}
use Rattle.network_folder.specs.Faults.{StopsReading}
use Rattle.network_folder.specs.Files.{FileToRead, bytes_at}
use Rattle.network_folder.specs.ReadingOrder.{first_fault_with, itinerary_file}
use Rattle.front_desk.specs.Explain.{itinerary_bytes, itinerary_fault}
use Rattle.front_desk.proofs.Batches.{stops_first, second_counts, stops_second}
use Rattle.front_desk.proofs.explain.load_itinerary.Goals as goal

pub returns-in_err-network-clause-refused : goal.returns-in_err-network-clause-refused
returns-in_err-network-clause-refused g c =
    let old = g.F.Folder.state c.args.folder.now in
    let new = g.F.Folder.state c.load_with.new.folder in
    let e = c.args.explain.now in
    let p = err_from_is_err_and c.from_residual.result c.from_residual.ensures.1 in
    rw (p.1, p.2) (stops_first old new (λ (held : Contents). first_fault_with (itinerary_file e.itinerary) held e.dir)
    (λ (held : Contents). itinerary_fault (itinerary_bytes e held)) _
    (subst (λ (file : FileToRead). StopsReading (λ (held : Contents). first_fault_with file held e.dir) old new c.in_err-network.field-0.0)
    c.itinerary-file.ensures c.in_err-network.ensures.refused))

pub returns-in_err-legs-clause-refused : goal.returns-in_err-legs-clause-refused
returns-in_err-legs-clause-refused g c =
    let old = g.F.Folder.state c.args.folder.now in
    let new = g.F.Folder.state c.load_with.new.folder in
    let e = c.args.explain.now in
    let loaded = c.in_ok-network.ensures in
    let p = err_from_is_err_and c.from_residual-in_err-legs.result c.from_residual-in_err-legs.ensures.1 in
    rw (p.1, p.2) (stops_second old new (λ (held : Contents). first_fault_with (itinerary_file e.itinerary) held e.dir)
    (λ (held : Contents). itinerary_fault (itinerary_bytes e held)) (itinerary_fault c.as_slice.result.now)
    (λ held is. subst (λ (file : FileToRead). first_fault_with file held e.dir ≡ None) c.itinerary-file.ensures (loaded.faultless held is))
    (λ held is. ap itinerary_fault (sym (c.as_slice.ensures
    ∙ subst (λ (file : FileToRead). c.in_ok-network.bytes ≡ bytes_at held e.dir file) c.itinerary-file.ensures (loaded.last held is))))
    _ c.in_err-legs.ensures.refused)

pub returns-clause-faultless : goal.returns-clause-faultless
returns-clause-faultless g c =
    let old = g.F.Folder.state c.args.folder.now in
    let new = g.F.Folder.state c.load_with.new.folder in
    let e = c.args.explain.now in
    let loaded = c.in_ok-network.ensures in
    second_counts old new (λ (held : Contents). first_fault_with (itinerary_file e.itinerary) held e.dir)
    (λ (held : Contents). itinerary_fault (itinerary_bytes e held)) None
    (λ held is. subst (λ (file : FileToRead). first_fault_with file held e.dir ≡ None) c.itinerary-file.ensures (loaded.faultless held is))
    (λ held is. ap itinerary_fault (sym (c.as_slice.ensures
    ∙ subst (λ (file : FileToRead). c.in_ok-network.bytes ≡ bytes_at held e.dir file) c.itinerary-file.ensures (loaded.last held is)))
    ∙ c.in_ok-legs.ensures.faultless)
