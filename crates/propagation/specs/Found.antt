-- The findings of a search: the front, and the bounds and cost functions that show it (source: SEA 2020; the proof that nothing is missing is own).
use Rattle.std.specs.Prelude.{◌≡◌, ◌⊎◌, ℕ, ◌+◌, ◌≤◌, Option, Some, List, length, All, Contains}
use Rattle.route_base.specs.Setting.{Setting}
use Rattle.route_base.specs.Itinerary.{Position, Step, Moves}
use Rattle.route_base.specs.Front.{IsFront, RiseAndFall}
use Rattle.route_base.specs.Legs.{end_of, IsReachable}
use Rattle.route_base.specs.Net.{Net, IsGoodNet, at_number, setting_of}
use Rattle.route_base.specs.Relaxing.{HasWithin, IsComplete, HasEveryWay}
use Rattle.route_base.specs.declared.types.Bound.{Bound}
use Rattle.route_base.specs.declared.types.Pair.{Pair}
use Rattle.route_base.specs.declared.types.Request.{Request}
use Rattle.cost_functions.specs.Pieces.{value_in}
use Rattle.cost_functions.specs.Building.{AreBuilt}
use Rattle.cost_functions.specs.declared.pieces.Piece.{Piece}
use Rattle.potentials.specs.Sums.{bound_at}

-- pairs, a function and a bound or none for each node
pub record Finding : Type 0 where
  pub pairs : List Pair
  pub functions : List (List Piece)
  pub bounds : List (Option Bound)

-- the cost of a node's function at a minute
abbrev pub cost_at : List (List Piece) → ℕ → ℕ → Option ℕ
cost_at functions v t = value_in (at_number functions v) t

-- the position is at the node and the minute of the start
abbrev pub IsStart : Request → Position → Type 0
IsStart r p = (p.node ≡ r.origin.0) × (p.minute ≡ r.depart)

-- a lawful step leads to the position's node and minute, from where a cost is known, and costs no more than the position
pub record HasPredecessor (s : Setting) (until : ℕ) (cost : ℕ → ℕ → Option ℕ) (p : Position) : Type 0 where
  pub step : Step
  pub source : Position
  pub end : Position
  pub move : Moves s until step source end
  pub node : end.node ≡ p.node
  pub minute : end.minute ≡ p.minute
  pub within : end.cost ≤ p.cost
  pub known : HasWithin cost source

-- the pairs are the front, and the bounds and functions leave nothing out
pub record IsOptimal (s : Setting) (r : Request) (pairs : List Pair) (bounds : ℕ → Option Bound) (cost : ℕ → ℕ → Option ℕ) : Type 0 where
  pub front : IsFront s r pairs
  pub trade : RiseAndFall pairs
  pub in_time : All (λ p. p.arrival ≤ r.until) pairs
  pub complete : IsComplete s r pairs bounds cost
  pub ways : HasEveryWay s r pairs cost

-- each cost is that of a walk at a minute of the request, from which the goal is in reach, and comes by a step; each pair is known at the goal
pub record IsJustified (s : Setting) (r : Request) (pairs : List Pair) (bounds : ℕ → Option Bound) (cost : ℕ → ℕ → Option ℕ) : Type 0 where
  pub reachable : (p : Position) → cost p.node p.minute ≡ Some p.cost → IsReachable s r p
  pub comes : (p : Position) → cost p.node p.minute ≡ Some p.cost → IsStart r p ⊎ HasPredecessor s r.until cost p
  pub begun : (p : Position) → cost p.node p.minute ≡ Some p.cost → r.depart ≤ p.minute
  pub tight : (p : Position) → cost p.node p.minute ≡ Some p.cost
      → (b : Bound) × (bounds p.node ≡ Some b) × (p.minute + b.minutes ≤ r.until)
  pub achieved : (p : Pair) → Contains pairs p → HasWithin cost (end_of r p)

-- the finding answers the request over the net, a well-formed one
pub record IsFoundFor (net : Net) (r : Request) (found : Finding) : Type 0 where
  pub good : IsGoodNet net
  pub nodes : length found.functions ≡ net.nodes
  pub bounded : length found.bounds ≡ net.nodes
  pub reduced : All AreBuilt found.functions
  pub optimal : IsOptimal (setting_of net) r found.pairs (bound_at found.bounds) (cost_at found.functions)
  pub justified : IsJustified (setting_of net) r found.pairs (bound_at found.bounds) (cost_at found.functions)
