use Rattle.std.proofs.Common.{length}
use Rattle.system_files.proofs.real_folder.write_whole.Given as goal

abbrev pub decreases-writing : goal.decreases-writing
decreases-writing g l = length l.rest
