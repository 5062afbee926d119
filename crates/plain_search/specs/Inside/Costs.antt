-- Labels: a cost for each node and minute, and how relaxing arcs changes them (source: own; no law).
use Rattle.std.specs.Prelude.{◌≡◌, ◌⊎◌, ℕ, ◌≤◌, ◌<◌, min, nat_lt, if◌then◌else◌, Option, Some, None}
use Rattle.route_base.specs.Setting.{Setting}
use Rattle.route_base.specs.Itinerary.{Position, Step, Moves}
use Rattle.route_base.specs.declared.types.Request.{Request}

-- the label of a node and minute that is not reached
abbrev pub none : ℕ
none = 18446744073709551615

-- the label of a node and minute, if it is reached
abbrev pub value_of : (ℕ → ℕ → ℕ) → ℕ → ℕ → Option ℕ
value_of cost v t = if nat_lt (cost v t) none then Some (cost v t) else None

-- x is the label of node v at minute t, which is reached
pub record IsKnownCost (cost : ℕ → ℕ → ℕ) (v t x : ℕ) : Type 0 where
  pub is : cost v t ≡ x
  pub reached : x < none

-- the label of one node and minute is lowered to x, where x is lower
pub record Lowers (old new : ℕ → ℕ → ℕ) (v t x : ℕ) : Type 0 where
  pub here : new v t ≡ min (old v t) x
  pub others : (w k : ℕ) → (w ≡ v → k ≡ t → ⊥) → new w k ≡ old w k

-- no label rises, and those up to minute t stay
pub record ChangesLater (old new : ℕ → ℕ → ℕ) (t : ℕ) : Type 0 where
  pub less : (v k : ℕ) → new v k ≤ old v k
  pub same : (v k : ℕ) → k ≤ t → new v k ≡ old v k

-- the position of a label
abbrev pub at : (ℕ → ℕ → ℕ) → ℕ → ℕ → Position
at cost v t = record { node = v; minute = t; cost = cost v t }

-- the label of a node and minute comes by a lawful step from its predecessor, at a minute before now
pub record ComesByStep (s : Setting) (until : ℕ) (cost : ℕ → ℕ → ℕ) (now v t : ℕ) : Type 0 where
  pub step : Step
  pub node : ℕ
  pub minute : ℕ
  pub early : minute < now
  pub known : cost node minute < none
  pub move : Moves s until step (at cost node minute) (at cost v t)

-- each label of a reached node and minute is the first, or comes by a lawful step
pub record ComesBySteps (s : Setting) (r : Request) (cost : ℕ → ℕ → ℕ) (now : ℕ) : Type 0 where
  pub start : cost r.origin.0 r.depart ≡ 0
  pub each : (v t : ℕ) → cost v t < none → ((v ≡ r.origin.0) × (t ≡ r.depart)) ⊎ ComesByStep s r.until cost now v t

-- the step is relaxed: the label where it leads is no higher than it brings
abbrev pub IsRelaxedFrom : Setting → ℕ → (ℕ → ℕ → ℕ) → Step → ℕ → ℕ → Type 0
IsRelaxedFrom s until cost x v t = cost v t < none → (q : Position) → Moves s until x (at cost v t) q → cost q.node q.minute ≤ q.cost

-- each step from each minute before t is relaxed
abbrev pub IsRelaxedBefore : Setting → ℕ → (ℕ → ℕ → ℕ) → ℕ → Type 0
IsRelaxedBefore s until cost t = (x : Step) (v k : ℕ) → k < t → IsRelaxedFrom s until cost x v k
