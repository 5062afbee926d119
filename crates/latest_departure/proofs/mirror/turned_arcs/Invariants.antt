use Rattle.std.proofs.Common.{◌≡◌, map, take}
use Rattle.latest_departure.specs.Inside.Mirror.{turned}
use Rattle.latest_departure.proofs.mirror.turned_arcs.Given as goal

abbrev pub invariant-loop-arc : goal.invariant-loop-arc
invariant-loop-arc l = l.out.items ≡ map turned (take l.arc-index l.arcs)
