use Rattle.std.proofs.Common.{arith}
use Rattle.std.proofs.lemmas.Grind.{common_steps}
use Rattle.stop_tour.proofs.layers.layered_arcs.Goals as goal

pub push_layer-requires-clause-nodes : goal.push_layer-requires-clause-nodes
push_layer-requires-clause-nodes c = grind (arith, common_steps)

pub push_layer-requires-clause-closed : goal.push_layer-requires-clause-closed
push_layer-requires-clause-closed c = grind (arith, common_steps)

pub loop-k-preserved : goal.loop-k-preserved
loop-k-preserved c = grind (arith, common_steps)
