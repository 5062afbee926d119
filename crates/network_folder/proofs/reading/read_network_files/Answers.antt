use Rattle.std.proofs.Common.{◌++◌, ◌∷◌, [], List, take, get_or, map, refl, ap, sym, subst, ◌∙◌, arith}
use Rattle.std.proofs.lemmas.List.{take_more}
use Rattle.std.proofs.lemmas.Result.{err_from_is_err_and}
use Rattle.route_base.specs.Contents.{Contents}
use Rattle.route_base.specs.declared.faults.FileKind.{FileKind}
use Rattle.route_base.specs.declared.faults.FileKind.TheVariants.{Graph}
use Rattle.route_base.proofs.FolderStates.{keeps_more}
use Rattle.network_folder.specs.Files.{FileToRead, IsRead, fault_of_file, first_unreadable}
use Rattle.network_folder.specs.Faults.{StopsReading}
use Rattle.network_folder.specs.ReadingOrder.{network_file}
use Rattle.network_folder.proofs.ReadFiles.{AreRead, none_read, read_more, stops_at, mapped_parts}
use Rattle.network_folder.proofs.reading.read_network_files.Goals as goal

pub loop-kind-init : goal.loop-kind-init
loop-kind-init g c = record {
  so_far = none_read (g.F.Folder.state c.args.folder.now) c.args.dir.now _ c.new-files.ensures;
  kept = record { contents = refl; missing = omega arith; read_faults = omega arith; write_faults = refl };
}

pub loop-kind-preserved : goal.loop-kind-preserved
loop-kind-preserved g c =
    let old = g.F.Folder.state c.args.folder.now in
    let mid = g.F.Folder.state c.loop-kind.folder in
    let dir = c.args.dir.now in
    let kinds = c.network_kinds-kinds.result.now in
    let i = c.loop-kind.kind-index in
    let kind = get_or kinds i Graph in
    record {
      so_far =
          subst (λ (ks : List FileKind). AreRead old dir ks c.put.new.self) (sym (take_more kinds i Graph c.loop-kind-test.true))
          (subst (AreRead old dir (take i kinds ++ kind ∷ [])) (sym c.put.ensures)
          (read_more old mid c.loop-kind.invariant.kept dir (take i kinds) c.loop-kind.files kind c.in_ok-bytes.bytes c.loop-kind.invariant.so_far
          (subst (λ (file : FileToRead). IsRead mid dir file c.in_ok-bytes.bytes) c.of_network.ensures c.in_ok-bytes.ensures.read)));
      kept = keeps_more _ _ _ c.loop-kind.invariant.kept c.read_file.ensures.kept;
    }

pub returns-in_err-bytes-clause-refused : goal.returns-in_err-bytes-clause-refused
returns-in_err-bytes-clause-refused g c =
    let old = g.F.Folder.state c.args.folder.now in
    let mid = g.F.Folder.state c.loop-kind.folder in
    let new = g.F.Folder.state c.read_file.new.folder in
    let dir = c.args.dir.now in
    let kinds = c.network_kinds-kinds.result.now in
    let p = err_from_is_err_and c.from_residual.result c.from_residual.ensures.1 in
    let kind = get_or kinds c.loop-kind.kind-index Graph in
    let parts =
    mapped_parts network_file kinds c.loop-kind.kind-index Graph c.loop-kind-test.true
    ∙ ap (map network_file) c.network_kinds-kinds.ensures in
    rw (p.1, p.2) (subst (λ (all : List FileToRead). StopsReading (λ (held : Contents). first_unreadable held dir all) old new c.in_err-bytes.field-0.0) parts
    (stops_at old mid c.loop-kind.invariant.kept dir _ (network_file kind) _ new _ c.loop-kind.invariant.so_far.faultless
    (subst (λ (file : FileToRead). StopsReading (λ (held : Contents). fault_of_file held dir file) mid new c.in_err-bytes.field-0.0) c.of_network.ensures
    c.in_err-bytes.ensures.refused)))
