use Rattle.std.proofs.Common.{take}
use Rattle.route_base.specs.FolderState.{KeepsFiles}
use Rattle.network_folder.proofs.ReadFiles.{AreRead}
use Rattle.network_folder.proofs.reading.read_network_files.Given as goal

abbrev pub invariant-loop-kind : goal.invariant-loop-kind
invariant-loop-kind g l = record {
  so_far : AreRead (g.F.Folder.state l.fn.folder) l.dir (take l.kind-index l.kinds) l.files;
  kept : KeepsFiles (g.F.Folder.state l.fn.folder) (g.F.Folder.state l.folder);
}
