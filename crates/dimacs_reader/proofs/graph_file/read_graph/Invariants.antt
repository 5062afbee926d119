use Rattle.std.proofs.Common.{length}
use Rattle.dimacs_reader.proofs.ReadSoFar.{HasReadLines}
use Rattle.dimacs_reader.proofs.graph_file.read_graph.Given as goal

abbrev pub invariant-lines : goal.invariant-lines
invariant-lines l = HasReadLines l.bytes l.rest l.number l.builder

abbrev pub decreases-lines : goal.decreases-lines
decreases-lines l = length l.rest
