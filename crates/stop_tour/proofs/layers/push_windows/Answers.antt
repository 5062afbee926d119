use Rattle.std.proofs.Common.{arith}
use Rattle.std.proofs.lemmas.Grind.{common_steps}
use Rattle.stop_tour.proofs.layers.push_windows.Goals as goal

pub loop-stop-preserved : goal.loop-stop-preserved
loop-stop-preserved c = grind (arith, common_steps)

pub returns : goal.returns
returns c = grind (arith, common_steps)
