use Rattle.std.proofs.Common.{◌≡◌, ◌++◌, drop}
use Rattle.stop_tour.specs.Inside.Layers.{services}
use Rattle.stop_tour.proofs.layers.push_services.Given as goal

abbrev pub invariant-loop-i : goal.invariant-loop-i
invariant-loop-i l = l.out.items ++ services l.nodes l.place l.i (drop l.i l.stops) ≡ l.initial.out.items ++ services l.nodes l.place 0 l.stops
