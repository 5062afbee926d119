-- The bounds of layers: over the roads to the layer's stop, and on from there (source: own; no law).
use Rattle.std.specs.Prelude.{◌≡◌, ℕ, zero, suc, ◌+◌, ◌-◌, ◌^◌, min, Option, Some, None, List, [], ◌∷◌, ◌++◌, flat_map}
use Rattle.std.specs.Option.{option_map, option_and_then}
use Rattle.route_base.specs.Net.{Net}
use Rattle.route_base.specs.declared.types.Bound.{Bound}
use Rattle.potentials.specs.Sums.{AreBoundsTo, bound_at}
use Rattle.stop_tour.specs.declared.layer_bounds.LayerBounds.{LayerBounds}
use Rattle.stop_tour.specs.declared.stops.Stop.{Stop}

-- the sum of two bounds, of which each part goes up to the largest number
abbrev pub sum_of : Bound → Bound → Bound
sum_of a b = record { minutes = min (a.minutes + b.minutes) (2 ^ 64 - 1); cost = min (a.cost + b.cost) (2 ^ 64 - 1) }

-- no minutes and no cost
abbrev pub zero_bound : Bound
zero_bound = record { minutes = 0; cost = 0 }

-- the minutes of a service, which costs nothing
abbrev pub bound_of_service : Stop → Bound
bound_of_service stop = record { minutes = stop.service; cost = 0 }

-- the bound of a node of a layer: over the roads, and on from there
abbrev pub bound_in : LayerBounds → ℕ → Option Bound
bound_in layer v = option_and_then (λ near. option_map (sum_of near) layer.ahead) (bound_at layer.roads v)

-- the bound from the start of a service on, by that of its node in the next layer
abbrev pub ahead_of : Stop → Option Bound → Option Bound
ahead_of stop next = option_map (sum_of (bound_of_service stop)) next

-- the bounds of this number of nodes of a layer
abbrev pub bounds_of : LayerBounds → ℕ → List (Option Bound)
bounds_of layer zero = []
bounds_of layer (suc k) = bounds_of layer k ++ bound_in layer (k + 1) ∷ []

-- the bound of node v of layer j
abbrev pub bound_over : List LayerBounds → ℕ → ℕ → Option Bound
bound_over [] j v = None
bound_over (layer ∷ layers) zero v = bound_in layer v
bound_over (layer ∷ layers) (suc j) v = bound_over layers j v

-- the last layer leads to the goal, where the tour ends
pub record IsLastLayer (net : Net) (goal : ℕ) (layer : LayerBounds) : Type 0 where
  pub roads : AreBoundsTo net goal layer.roads
  pub ahead : layer.ahead ≡ Some zero_bound

-- a layer leads to its stop, whose bound in the next layer is known
pub record IsLayerBefore (net : Net) (stop : Stop) (next : Option Bound) (layer : LayerBounds) : Type 0 where
  pub roads : AreBoundsTo net stop.node.0 layer.roads
  pub ahead : layer.ahead ≡ ahead_of stop next

-- a layer for each stop, and the last one
abbrev pub AreLayers : Net → ℕ → List Stop → List LayerBounds → Type 0
AreLayers net goal [] [] = ⊥
AreLayers net goal [] (layer ∷ layers) = (layers ≡ []) × IsLastLayer net goal layer
AreLayers net goal (stop ∷ stops) [] = ⊥
AreLayers net goal (stop ∷ stops) (layer ∷ layers) =
    IsLayerBefore net stop (bound_over layers zero stop.node.0) layer × AreLayers net goal stops layers

-- the bounds of all layers, layer after layer
pub record AreTourBounds (net : Net) (goal : ℕ) (stops : List Stop) (over : List (Option Bound)) : Type 0 where
  pub layers : List LayerBounds
  pub each : AreLayers net goal stops layers
  pub are : over ≡ flat_map (λ layer. bounds_of layer net.nodes) layers
