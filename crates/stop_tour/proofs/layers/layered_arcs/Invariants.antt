use Rattle.std.proofs.Common.{◌≡◌}
use Rattle.stop_tour.specs.Inside.Layers.{layered}
use Rattle.stop_tour.proofs.layers.layered_arcs.Given as goal

abbrev pub invariant-loop-k : goal.invariant-loop-k
invariant-loop-k l = l.out.items ≡ layered l.net.nodes l.lists l.last l.net.arcs l.k
