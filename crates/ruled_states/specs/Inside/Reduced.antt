-- Reduced sums as lists by stage and node, and what holds of them (source: own; no law).
use Rattle.std.specs.Prelude.{ℕ, ⊤, Option, Some, None, List, [], map, slice_get, unwrap_or, Vec}
use Rattle.std.specs.declared.alloc.Global.{Global}
use Rattle.route_base.specs.Setting.{Setting}
use Rattle.state_dominance.specs.Inside.NextStops.{AreReducedSums}
use Rattle.state_dominance.specs.Inside.Product.{Ruler}
use Rattle.ruled_states.specs.declared.reduced.ReducedSums.{ReducedSums}

abbrev pub sums_of : List (Vec ℕ Global) → List (List ℕ)
sums_of lists = map (λ v. v.items) lists

-- the sum of a node at a stage, and nothing where there is none
abbrev pub reduced_in : List (List ℕ) → ℕ → ℕ → ℕ
reduced_in sums v i = unwrap_or (slice_get (unwrap_or (slice_get sums i) []) v) 0

-- the sums, if there are some, are no larger than any way to the stop
abbrev pub HoldsReduced : Setting → Ruler → Option ReducedSums → Type 0
HoldsReduced s r None = ⊤
HoldsReduced s r (Some sums) = AreReducedSums s r sums.price (reduced_in (sums_of sums.sums.items))
