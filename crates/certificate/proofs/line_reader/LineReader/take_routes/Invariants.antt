use Rattle.std.proofs.Common.{length}
use Rattle.certificate.specs.Inside.Reading.{route_in, AreTaken}
use Rattle.certificate.proofs.line_reader.LineReader.take_routes.Given as goal

abbrev pub invariant-routes : goal.invariant-routes
invariant-routes l = AreTaken route_in l.fn.self l.routes.items l.self

abbrev pub decreases-routes : goal.decreases-routes
decreases-routes l = length l.self
