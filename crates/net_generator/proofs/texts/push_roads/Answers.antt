use Rattle.std.proofs.Common.{arith}
use Rattle.std.proofs.lemmas.Grind.{common_steps}
use Rattle.net_generator.proofs.texts.push_roads.Goals as goal

pub loop-road-preserved : goal.loop-road-preserved
loop-road-preserved c = grind (arith, common_steps)

pub returns : goal.returns
returns c = grind (arith, common_steps)
