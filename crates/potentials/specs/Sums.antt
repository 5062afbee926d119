-- Least sums over walks of arcs to a goal (source: Dijkstra 1959; bounds of two criteria: SEA 2020).
use Rattle.std.specs.Prelude.{◌≡◌, ◌⊎◌, ℕ, ◌+◌, ◌≤◌, Option, Some, None, List, [], ◌∷◌, length}
use Rattle.std.specs.Option.{option_map, option_flatten}
use Rattle.route_base.specs.Setting.{Setting, Road}
use Rattle.route_base.specs.Net.{Net, at_number, setting_of}
use Rattle.route_base.specs.Relaxing.{AreBounds}
use Rattle.route_base.specs.declared.types.Bound.{Bound}

-- these arcs lead from node v to the goal, and what is counted of them sums up to this
abbrev pub Leads : (ℕ → Option Road) → (Road → ℕ) → ℕ → List ℕ → ℕ → ℕ → Type 0
Leads roads count goal [] v sum = (v ≡ goal) × (sum ≡ 0)
Leads roads count goal (a ∷ arcs) v sum = (road : Road) × (rest : ℕ) × (roads a ≡ Some road) × (road.tail ≡ v) × Leads roads count goal arcs road.head rest × (sum ≡ count road + rest)

-- the least such sum, or none where no arcs lead to the goal
abbrev pub IsLeastSum : (ℕ → Option Road) → (Road → ℕ) → ℕ → ℕ → Option ℕ → Type 0
IsLeastSum roads count goal v None = (arcs : List ℕ) (sum : ℕ) → Leads roads count goal arcs v sum → ⊥
IsLeastSum roads count goal v (Some x) = ((arcs : List ℕ) × Leads roads count goal arcs v x) × ((arcs : List ℕ) (sum : ℕ) → Leads roads count goal arcs v sum → x ≤ sum)

-- for each node the least minutes and, by itself, the least cost to the goal
abbrev pub AreLeastBounds : Setting → ℕ → (ℕ → Option Bound) → Type 0
AreLeastBounds s goal bounds = (v : ℕ) → IsLeastSum s.road (λ r. r.minutes) goal v (option_map (λ b. b.minutes) (bounds v)) × IsLeastSum s.road (λ r. r.cost) goal v (option_map (λ b. b.cost) (bounds v))

-- the bound of a node in a list with a place for each node
abbrev pub bound_at : List (Option Bound) → ℕ → Option Bound
bound_at bounds v = option_flatten (at_number bounds v)

-- for each node of the net its least bounds to the goal, which hold along each arc
pub record AreBoundsTo (net : Net) (goal : ℕ) (list : List (Option Bound)) : Type 0 where
  pub least : AreLeastBounds (setting_of net) goal (bound_at list)
  pub bounds : AreBounds (setting_of net) goal (bound_at list)
  pub nodes : length list ≡ net.nodes

-- the lesser of a cap and the least sum
pub record IsCappedSum (roads : ℕ → Option Road) (count : Road → ℕ) (goal v most x : ℕ) : Type 0 where
  pub within : x ≤ most
  pub least : (arcs : List ℕ) (sum : ℕ) → Leads roads count goal arcs v sum → x ≤ sum
  pub is : (x ≡ most) ⊎ ((arcs : List ℕ) × Leads roads count goal arcs v x)

-- the node has a bound: its minutes and its cost, each capped by itself
pub record HasCappedBound (s : Setting) (goal : ℕ) (most : Bound) (bounds : ℕ → Option Bound) (v : ℕ) : Type 0 where
  pub bound : Bound
  pub is : bounds v ≡ Some bound
  pub minutes : IsCappedSum s.road (λ r. r.minutes) goal v most.minutes bound.minutes
  pub cost : IsCappedSum s.road (λ r. r.cost) goal v most.cost bound.cost

-- for each node of the net its capped bounds to the goal, which hold along each arc
pub record AreCappedBoundsTo (net : Net) (goal : ℕ) (most : Bound) (list : List (Option Bound)) : Type 0 where
  pub each : (v : ℕ) → 1 ≤ v → v ≤ net.nodes → HasCappedBound (setting_of net) goal most (bound_at list) v
  pub bounds : AreBounds (setting_of net) goal (bound_at list)
  pub nodes : length list ≡ net.nodes
