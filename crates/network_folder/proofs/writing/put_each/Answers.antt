use Rattle.std.proofs.Common.{[], List, get_or, refl, sym, subst, arith}
use Rattle.std.proofs.lemmas.Result.{err_from_is_err_and}
use Rattle.network_folder.specs.Writing.{FileToWrite, HoldsEach, written_in}
use Rattle.network_folder.specs.declared.writing.FileToWrite.{FileToWrite as FileWords}
use Rattle.network_folder.proofs.ReadFiles.{mapped_next, mapped_parts}
use Rattle.network_folder.proofs.Written.{rise_on, holds_more, stops_putting}
use Rattle.network_folder.proofs.writing.put_each.Goals as goal

-- what a list has beyond its end
abbrev no_file : FileWords
no_file = record { name = record { ref_ptr = (0, 0); now = [] }; bytes = record { ref_ptr = (0, 0); now = [] } }

pub loop-file-init : goal.loop-file-init
loop-file-init g c = record {
  held = refl;
  counts = record { missing = omega arith; read_faults = omega arith; write_faults = omega arith };
}

pub loop-file-preserved : goal.loop-file-preserved
loop-file-preserved g c =
    let files = c.args.files.now in
    record {
      held =
          subst (λ (all : List FileToWrite). HoldsEach c.args.dir.now all (g.F.Folder.state c.args.folder.now).contents
          (g.F.Folder.state c.put_file.new.folder).contents) (sym (mapped_next written_in files c.loop-file.file-index no_file c.loop-file-test.true))
          (holds_more c.args.dir.now _ (written_in (get_or files c.loop-file.file-index no_file)) _ _ _ c.loop-file.invariant.held
          c.in_ok-put_file.ensures.written);
      counts = rise_on _ _ _ c.loop-file.invariant.counts c.put_file.ensures.counts;
    }

pub returns-in_err-put_file-clause-unwritten : goal.returns-in_err-put_file-clause-unwritten
returns-in_err-put_file-clause-unwritten g c =
    let files = c.args.files.now in
    let p = err_from_is_err_and c.from_residual.result c.from_residual.ensures.1 in
    rw (p.1, p.2) (stops_putting c.args.dir.now _ (written_in (get_or files c.loop-file.file-index no_file)) _ _ (g.F.Folder.state c.args.folder.now)
    (g.F.Folder.state c.loop-file.folder) (g.F.Folder.state c.put_file.new.folder)
    (sym (mapped_parts written_in files c.loop-file.file-index no_file c.loop-file-test.true)) c.loop-file.invariant.counts c.loop-file.invariant.held _
    c.in_err-put_file.ensures.unwritten)
