-- Relaxed steps: the invariant under which values, bounds and pairs leave no lawful itinerary out (source: own; no law).
-- It is the core that searches and the checker share, and not by itself what a certificate has to meet.
use Rattle.std.specs.Prelude.{◌≡◌, ◌⊎◌, ℕ, ◌+◌, ◌≤◌, ◌<◌, ⊤, Option, Some, None, List, Contains}
use Rattle.route_base.specs.Setting.{Setting, Road}
use Rattle.route_base.specs.Itinerary.{Position, Step, Moves, Walks}
use Rattle.route_base.specs.Legs.{start_of, end_of}
use Rattle.route_base.specs.declared.types.Pair.{Pair}
use Rattle.route_base.specs.declared.types.Bound.{Bound}
use Rattle.route_base.specs.declared.types.Request.{Request}

-- the value at the position's node and minute is at most its cost
pub record HasWithin (value : ℕ → ℕ → Option ℕ) (p : Position) : Type 0 where
  pub least : ℕ
  pub is : value p.node p.minute ≡ Some least
  pub within : least ≤ p.cost

-- some pair arrives by t and costs at most x
pub record HasPair (pairs : List Pair) (t x : ℕ) : Type 0 where
  pub pair : Pair
  pub is_one : Contains pairs pair
  pub arrival : pair.arrival ≤ t
  pub cost : pair.cost ≤ x

-- every way on from here is dominated by a pair, or late
abbrev pub IsDominatedOrLate : ℕ → List Pair → Option Bound → Position → Type 0
IsDominatedOrLate until pairs None p = ⊤
IsDominatedOrLate until pairs (Some b) p = (until < p.minute + b.minutes) ⊎ HasPair pairs (p.minute + b.minutes) (p.cost + b.cost)

-- the step that led here is relaxed: its end has a value within its cost, or is dominated or late
abbrev pub IsRelaxed : ℕ → List Pair → (ℕ → Option Bound) → (ℕ → ℕ → Option ℕ) → Position → Type 0
IsRelaxed until pairs bounds value p = HasWithin value p ⊎ IsDominatedOrLate until pairs (bounds p.node) p

-- no part of b is larger than the road's with that of h
pub record IsBoundThrough (road : Road) (h b : Bound) : Type 0 where
  pub minutes : b.minutes ≤ road.minutes + h.minutes
  pub cost : b.cost ≤ road.cost + h.cost

-- the bounds are no larger than the way over any road to the goal
pub record AreBounds (s : Setting) (target : ℕ) (bounds : ℕ → Option Bound) : Type 0 where
  pub goal : bounds target ≡ Some (record { minutes = 0; cost = 0 })
  pub each : (a : ℕ) (road : Road) (h : Bound) → s.road a ≡ Some road → bounds road.head ≡ Some h
      → (b : Bound) × (bounds road.tail ≡ Some b) × IsBoundThrough road h b

-- the values and the bounds leave no lawful itinerary out
pub record IsComplete (s : Setting) (r : Request) (pairs : List Pair) (bounds : ℕ → Option Bound) (value : ℕ → ℕ → Option ℕ) : Type 0 where
  pub bound : AreBounds s r.goal.0 bounds
  pub start : IsRelaxed r.until pairs bounds value (start_of r)
  pub goes_on : (p : Position) → value p.node p.minute ≡ Some p.cost
      → IsDominatedOrLate r.until pairs (bounds p.node) p
      ⊎ ((x : Step) (q : Position) → Moves s r.until x p q → IsRelaxed r.until pairs bounds value q)
  pub end : (t x : ℕ) → value r.goal.0 t ≡ Some x → HasPair pairs t x

-- each position of each lawful itinerary of a pair has its cost as value
abbrev pub HasEveryWay : Setting → Request → List Pair → (ℕ → ℕ → Option ℕ) → Type 0
HasEveryWay s r pairs value = (pair : Pair) (before after : List Step) (p : Position) → Contains pairs pair
    → Walks s r.until before (start_of r) p → Walks s r.until after p (end_of r pair) → value p.node p.minute ≡ Some p.cost
