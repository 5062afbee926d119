use Rattle.std.proofs.Common.{arith}
use Rattle.std.proofs.lemmas.Grind.{common_steps}
use Rattle.certificate.proofs.neighbours.are_in_order.Goals as goal

pub neighbours-preserved : goal.neighbours-preserved
neighbours-preserved g c = grind (arith, common_steps)
