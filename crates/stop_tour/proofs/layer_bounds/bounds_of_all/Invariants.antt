use Rattle.std.proofs.Common.{◌≡◌, ◌++◌, flat_map, reverse, length}
use Rattle.stop_tour.specs.Inside.LayerBounds.{bounds_of}
use Rattle.stop_tour.proofs.layer_bounds.bounds_of_all.Given as goal

abbrev pub invariant-layers : goal.invariant-layers
invariant-layers l = l.over ++ flat_map (λ layer. bounds_of layer l.nodes) (reverse l.left.items)
    ≡ flat_map (λ layer. bounds_of layer l.nodes) (reverse l.fn.layers.items)

abbrev pub decreases-layers : goal.decreases-layers
decreases-layers l = length l.left.items
