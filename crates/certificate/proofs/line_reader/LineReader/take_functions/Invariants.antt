use Rattle.std.proofs.Common.{length}
use Rattle.certificate.specs.Inside.Reading.{function_in, AreTaken}
use Rattle.certificate.proofs.line_reader.LineReader.take_functions.Given as goal

abbrev pub invariant-functions : goal.invariant-functions
invariant-functions l = AreTaken function_in l.fn.self l.functions.items l.self

abbrev pub decreases-functions : goal.decreases-functions
decreases-functions l = length l.self
