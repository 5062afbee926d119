use Rattle.std.proofs.Common.{◌≤◌, ◌∷◌, drop, length, reverse}
use Rattle.stop_tour.specs.Inside.LayerBounds.{AreLayers}
use Rattle.stop_tour.proofs.layer_bounds.layers_backwards.Given as goal

abbrev pub invariant-loop-left : goal.invariant-loop-left
invariant-loop-left l = record {
  within : l.left ≤ length l.stops;
  layers : AreLayers l.net l.fn.goal.0 (drop l.left l.stops) (l.first ∷ reverse l.layers.items);
}

abbrev pub decreases-loop-left : goal.decreases-loop-left
decreases-loop-left l = l.left
