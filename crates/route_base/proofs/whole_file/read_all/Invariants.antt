use Rattle.std.proofs.Common.{◌+◌, ◌-◌, length}
use Rattle.route_base.specs.FolderState.{KeepsFiles}
use Rattle.route_base.proofs.SoFar.{HasRead}
use Rattle.route_base.proofs.whole_file.read_all.Given as goal

abbrev pub invariant-reading : goal.invariant-reading
invariant-reading g l = record {
  so_far : HasRead (g.F.Folder.state l.fn.folder).contents l.name l.all.items;
  kept : KeepsFiles (g.F.Folder.state l.fn.folder) (g.F.Folder.state l.folder);
}

abbrev pub decreases-reading : goal.decreases-reading
decreases-reading g l = (l.limit + 1) - length l.all.items
