use Rattle.std.proofs.Common.{arith}
use Rattle.std.proofs.lemmas.Grind.{common_steps}
use Rattle.net_generator.proofs.texts.closures.Goals as goal

pub loop-closure-preserved : goal.loop-closure-preserved
loop-closure-preserved c = grind (arith, common_steps)

pub returns : goal.returns
returns c = grind (arith, common_steps)
