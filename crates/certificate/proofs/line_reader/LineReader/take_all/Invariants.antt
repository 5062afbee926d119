use Rattle.std.proofs.Common.{length}
use Rattle.certificate.specs.Inside.Reading.{first_line, AreTaken}
use Rattle.certificate.proofs.line_reader.LineReader.take_all.Given as goal

abbrev pub invariant-lines : goal.invariant-lines
invariant-lines g l = AreTaken (first_line (g.K.LineKind.reading l.fn.kind)) l.fn.self l.items.items l.self

abbrev pub decreases-lines : goal.decreases-lines
decreases-lines g l = length l.self
