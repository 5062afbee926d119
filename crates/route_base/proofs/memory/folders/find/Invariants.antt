use Rattle.std.proofs.Common.{◌≡◌, length}
use Rattle.route_base.specs.MemoryFiles.{held_in}
use Rattle.route_base.proofs.memory.folders.find.Given as goal

abbrev pub invariant-loop-rest : goal.invariant-loop-rest
invariant-loop-rest l = held_in l.rest l.name ≡ held_in l.files l.name

abbrev pub decreases-loop-rest : goal.decreases-loop-rest
decreases-loop-rest l = length l.rest
