-- The six conditions, over pairs, bounds and functions: by them these leave no lawful itinerary out (source: own).
use Rattle.std.specs.Prelude.{◌≡◌, ◌⊎◌, ℕ, ◌≤◌, Option, Some, None, List, All}
use Rattle.route_base.specs.Setting.{Setting}
use Rattle.route_base.specs.Itinerary.{Position, Step, Moves}
use Rattle.route_base.specs.Legs.{Achieves, start_of}
use Rattle.route_base.specs.Front.{RiseAndFall}
use Rattle.route_base.specs.Relaxing.{HasPair, IsDominatedOrLate, IsRelaxed, AreBounds}
use Rattle.route_base.specs.declared.types.Bound.{Bound}
use Rattle.route_base.specs.declared.types.NodeId.{NodeId}
use Rattle.route_base.specs.declared.types.Pair.{Pair}
use Rattle.route_base.specs.declared.types.Request.{Request}
use Rattle.route_base.specs.declared.types.Route.{Route}
use Rattle.cost_functions.specs.Pieces.{value_in}
use Rattle.cost_functions.specs.declared.TheConstants.{HIGHEST_PIECE_COST}
use Rattle.cost_functions.specs.declared.pieces.Piece.{Piece}
use Rattle.certificate.specs.ByNode.{item_at}
use Rattle.certificate.specs.declared.limits.TheConstants.{LONGEST_BOUND}

-- the value of a node's function at a minute
abbrev pub value_of : List (NodeId × List Piece) → ℕ → ℕ → Option ℕ
value_of functions v t = value_in (item_at functions v) t

-- the node is one of the setting
abbrev pub IsNodeOf : Setting → ℕ → Type 0
IsNodeOf s v = (1 ≤ v) × (v ≤ s.nodes)

-- the first condition: the pairs rise in arrival and fall in cost, and none is late
pub record AreOrderedPairs (until : ℕ) (pairs : List Pair) : Type 0 where
  pub trade : RiseAndFall pairs
  pub in_time : All (λ p. p.arrival ≤ until) pairs

-- the second: the legs of each route are lawful and achieve its pair
abbrev pub AreAchieved : Setting → Request → List Route → Type 0
AreAchieved s r routes = All (λ x. Achieves s r x.legs x.pair) routes

-- the third: the bounds are of nodes of the setting, and no larger than the way over any road to the goal
pub record AreNodeBounds (s : Setting) (target : ℕ) (bounds : List (NodeId × Bound)) : Type 0 where
  pub nodes : All (λ e. IsNodeOf s e.0.0) bounds
  pub are : AreBounds s target (item_at bounds)

-- the fourth: the start has the value 0, or is dominated or late
abbrev pub IsStartRelaxed : Request → List Pair → (ℕ → Option Bound) → (ℕ → ℕ → Option ℕ) → Type 0
IsStartRelaxed r pairs bounds value = IsRelaxed r.until pairs bounds value (start_of r)

-- the function is of a node of the setting, and its minutes are those of the request
pub record IsInRange (s : Setting) (r : Request) (e : NodeId × List Piece) : Type 0 where
  pub node : IsNodeOf s e.0.0
  pub minutes : All (λ p. (r.depart ≤ p.lo) × (p.hi ≤ r.until)) e.1

-- each value is dominated or late, or all lawful steps from it are relaxed
abbrev pub AreStepsRelaxed : Setting → ℕ → List Pair → (ℕ → Option Bound) → (ℕ → ℕ → Option ℕ) → Type 0
AreStepsRelaxed s until pairs bounds value = (p : Position) → value p.node p.minute ≡ Some p.cost
    → IsDominatedOrLate until pairs (bounds p.node) p
    ⊎ ((x : Step) (q : Position) → Moves s until x p q → IsRelaxed until pairs bounds value q)

-- the fifth: the functions are in range, and the steps from their values are relaxed
pub record AreFunctionsRelaxed (s : Setting) (r : Request) (pairs : List Pair) (bounds : ℕ → Option Bound)
    (functions : List (NodeId × List Piece)) : Type 0 where
  pub ranges : All (IsInRange s r) functions
  pub steps : AreStepsRelaxed s r.until pairs bounds (value_of functions)

-- the sixth: for each value at the goal some pair arrives no later and costs no more
abbrev pub IsGoalCovered : ℕ → List Pair → (ℕ → ℕ → Option ℕ) → Type 0
IsGoalCovered target pairs value = (t x : ℕ) → value target t ≡ Some x → HasPair pairs t x

-- no bound is above the limits of the format
pub record AreBoundsInRange (bounds : List (NodeId × Bound)) : Type 0 where
  pub minutes : All (λ e. e.1.minutes ≤ LONGEST_BOUND) bounds
  pub costs : All (λ e. e.1.cost ≤ HIGHEST_PIECE_COST) bounds
