use Rattle.std.proofs.Common.{take}
use Rattle.std.specs.Prelude.{map}
use Rattle.route_base.specs.FolderState.{CountsRise}
use Rattle.network_folder.specs.Writing.{HoldsEach, written_in}
use Rattle.network_folder.proofs.writing.put_each.Given as goal

abbrev pub invariant-loop-file : goal.invariant-loop-file
invariant-loop-file g l = record {
  held : HoldsEach l.dir (map written_in (take l.file-index l.files)) (g.F.Folder.state l.fn.folder).contents (g.F.Folder.state l.folder).contents;
  counts : CountsRise (g.F.Folder.state l.fn.folder) (g.F.Folder.state l.folder);
}
