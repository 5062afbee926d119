-- The points of a function from which the goal is still worth reaching (source: SEA 2020, pruning by bounds to the goal).
use Rattle.std.specs.Prelude.{◌≡◌, ◌⊎◌, ℕ, Option, Some, List}
use Rattle.route_base.specs.Itinerary.{Position}
use Rattle.route_base.specs.Relaxing.{IsDominatedOrLate}
use Rattle.route_base.specs.declared.types.Pair.{Pair}
use Rattle.route_base.specs.declared.types.Bound.{Bound}

-- g is f without the points that are dominated by a pair or late, at a node with this bound to the goal
pub record IsPruned (until : ℕ) (pairs : List Pair) (bound : Bound) (f g : ℕ → Option ℕ) : Type 0 where
  pub kept : (t x : ℕ) → g t ≡ Some x → f t ≡ Some x
  pub clear : (p : Position) → g p.minute ≡ Some p.cost → IsDominatedOrLate until pairs (Some bound) p → ⊥
  pub left : (p : Position) → f p.minute ≡ Some p.cost → (g p.minute ≡ Some p.cost) ⊎ IsDominatedOrLate until pairs (Some bound) p
