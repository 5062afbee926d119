use Rattle.std.proofs.Common.{◌≡◌, ◌++◌, map, take}
use Rattle.stop_tour.specs.Inside.Layers.{lifted}
use Rattle.stop_tour.proofs.layers.push_layer.Given as goal

abbrev pub invariant-loop-arc : goal.invariant-loop-arc
invariant-loop-arc l = l.out.items ≡ l.initial.out.items ++ map (lifted l.by l.place) (take l.arc-index l.arcs)
