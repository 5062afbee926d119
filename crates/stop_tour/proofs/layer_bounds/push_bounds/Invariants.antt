use Rattle.std.proofs.Common.{◌≡◌, ◌++◌}
use Rattle.stop_tour.specs.Inside.LayerBounds.{bounds_of}
use Rattle.stop_tour.proofs.layer_bounds.push_bounds.Given as goal

abbrev pub invariant-loop-place : goal.invariant-loop-place
invariant-loop-place l = l.over ≡ l.initial.over ++ bounds_of l.layer l.place
