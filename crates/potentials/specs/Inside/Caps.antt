-- Sums up to caps, and bounds made from them (source: own; no law).
use Rattle.std.specs.Prelude.{◌≡◌, ℕ, ◌+◌, ◌-◌, ◌*◌, ◌^◌, ◌≤◌, ◌<◌, min, map, Option, Some, None, List, Vec, length}
use Rattle.std.specs.Option.{option_map}
use Rattle.std.specs.declared.alloc.Global.{Global}
use Rattle.route_base.specs.Net.{Net, setting_of}
use Rattle.route_base.specs.declared.limits.TheConstants.{COST_OF_MINUTE}
use Rattle.route_base.specs.declared.types.Bound.{Bound}
use Rattle.label_queue.specs.Keys.{key_at}
use Rattle.potentials.specs.Sums.{bound_at}
use Rattle.potentials.specs.Inside.Summing.{IsSumBelow, counted_on}
use Rattle.potentials.specs.declared.bounds.Sums.{Sums}
use Rattle.potentials.specs.declared.sums.Counted.{Counted}
use Rattle.potentials.specs.declared.sums.Counted.TheVariants.{Minutes, Cost}

-- both bounds, where there are both
abbrev pub bound_of_sums : Option ℕ → Option ℕ → Option Bound
bound_of_sums None y = None
bound_of_sums (Some x) None = None
bound_of_sums (Some x) (Some y) = Some (record { minutes = x; cost = y })

-- a sum or the cap, the lesser of both
abbrev pub capped_at : ℕ → Option ℕ → ℕ
capped_at cap None = cap
capped_at cap (Some x) = min x cap

-- both bounds: where there are both, or of each node under caps
abbrev pub bound_in : Option Bound → Option ℕ → Option ℕ → Option Bound
bound_in None x y = bound_of_sums x y
bound_in (Some most) x y = Some (record { minutes = capped_at most.minutes x; cost = capped_at most.cost y })

-- the list has such a bound for each node
pub record AreBoundsIn (caps : Option Bound) (minutes costs : List (Option ℕ)) (list : List (Option Bound)) : Type 0 where
  pub nodes : length list ≡ length costs
  pub each : (k : ℕ) → k < length costs → bound_at list (k + 1) ≡ bound_in caps (key_at minutes (k + 1)) (key_at costs (k + 1))

-- the cost of each sum of minutes fits its type
abbrev pub HaveCosts : List (Option ℕ) → Type 0
HaveCosts minutes = (v x : ℕ) → key_at minutes v ≡ Some x → COST_OF_MINUTE * x < 2 ^ 64

-- the costs that are listed, or those of the minutes where none are
abbrev pub costs_in : List (Option ℕ) → Option (Vec (Option ℕ) Global) → List (Option ℕ)
costs_in minutes None = map (option_map (λ x. COST_OF_MINUTE * x)) minutes
costs_in minutes (Some costs) = costs.items

abbrev pub costs_of : Sums → List (Option ℕ)
costs_of sums = costs_in sums.minutes.items sums.costs

-- the sum is at the cap or above it, if there is one
abbrev pub IsPastCap : Option ℕ → ℕ → Type 0
IsPastCap None sum = ⊥
IsPastCap (Some cap) sum = cap ≤ sum

-- for each node the least sum, up to the cap, if there is one
abbrev pub AreSumsUpTo : Net → Counted → ℕ → Option ℕ → List (Option ℕ) → Type 0
AreSumsUpTo net counted goal cap sums = (v : ℕ) → IsSumBelow (setting_of net).road (counted_on counted) goal (IsPastCap cap) v (key_at sums v)

-- for each node the least minutes and the least costs up to the caps, if there are any
pub record AreSumsTo (net : Net) (goal : ℕ) (caps : Option Bound) (sums : Sums) : Type 0 where
  pub minutes_nodes : length sums.minutes.items ≡ net.nodes
  pub costs_nodes : length (costs_of sums) ≡ net.nodes
  pub fit : HaveCosts sums.minutes.items
  pub minutes : AreSumsUpTo net Minutes goal (option_map (λ b. b.minutes) caps) sums.minutes.items
  pub costs : AreSumsUpTo net Cost goal (option_map (λ b. b.cost) caps) (costs_of sums)

-- minutes from this cap on are past the cap of minutes, and their costs past that of costs; without caps it is the highest number
abbrev pub IsCapForBoth : Option Bound → ℕ → Type 0
IsCapForBoth None cap = cap ≡ 2 ^ 64 - 1
IsCapForBoth (Some most) cap = (most.minutes ≤ cap) × (most.cost ≤ COST_OF_MINUTE * cap)
