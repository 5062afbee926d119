use Rattle.std.proofs.Common.{◌≡◌}
use Rattle.stop_tour.specs.Inside.Layers.{copies}
use Rattle.stop_tour.proofs.layers.copied_parks.Given as goal

abbrev pub invariant-loop-k : goal.invariant-loop-k
invariant-loop-k l = l.out.items ≡ copies l.parks l._k
