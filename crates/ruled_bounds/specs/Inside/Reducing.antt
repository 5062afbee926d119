-- How reduced sums hold along arcs, at parks and at stops (source: own; no law).
use Rattle.std.specs.Prelude.{◌≡◌, ◌⊎◌, ℕ, ◌+◌, ◌*◌, ◌≤◌, ⊤, All, Option, Some, None}
use Rattle.route_base.specs.Setting.{Road, Setting}
use Rattle.node_arcs.specs.Stars.{Star, arcs_of}
use Rattle.state_dominance.specs.Inside.Product.{Service}

-- along a road at a stage
abbrev pub IsReducedAlong : ℕ → (ℕ → ℕ → ℕ) → ℕ → Road → Type 0
IsReducedAlong price sum i over = sum over.tail i + price * over.minutes ≤ over.cost + sum over.head i

-- along a road, if there is one
abbrev pub IsReducedBy : ℕ → (ℕ → ℕ → ℕ) → ℕ → Option Road → Type 0
IsReducedBy price sum i None = ⊤
IsReducedBy price sum i (Some over) = IsReducedAlong price sum i over

-- the road, if there is one, costs no less than the price of its minutes
abbrev pub IsDearBy : ℕ → Option Road → Type 0
IsDearBy price None = ⊤
IsDearBy price (Some over) = price * over.minutes ≤ over.cost

-- along the roads into a node, or it is far; what is far has the sum at place 0, and no node has more
abbrev pub HoldsInto : Setting → Star → ℕ → (ℕ → ℕ → ℕ) → ℕ → ℕ → Type 0
HoldsInto s star price sum i v = (sum v i ≤ sum 0 i)
    × ((sum v i ≡ sum 0 i) ⊎ All (λ a. IsReducedBy price sum i (s.road a.0)) (arcs_of star v))

-- no minute at a node with this weight is below the price, if it is rated
abbrev pub IsPricedBy : ℕ → Option ℕ → Type 0
IsPricedBy price None = ⊤
IsPricedBy price (Some weight) = price ≤ weight

-- the sum at the stage's stop is nothing, if there is one
abbrev pub EndsBy : (ℕ → ℕ → ℕ) → ℕ → Option Service → Type 0
EndsBy sum i None = ⊤
EndsBy sum i (Some c) = sum c.node i ≡ 0
