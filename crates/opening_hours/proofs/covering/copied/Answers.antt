use Rattle.std.proofs.Common.{arith}
use Rattle.std.proofs.lemmas.Grind.{common_steps}
use Rattle.opening_hours.proofs.covering.copied.Goals as goal

pub loop-s-preserved : goal.loop-s-preserved
loop-s-preserved c = grind (arith, common_steps)

pub returns : goal.returns
returns c = grind (arith, common_steps)
