-- Costs without those that better states of the node dominate (source: own; no law).
use Rattle.std.specs.Prelude.{◌≡◌, ◌⊎◌, ℕ, ◌≤◌, true, Option, Some, List, Contains}
use Rattle.cost_functions.specs.declared.pieces.Piece.{Piece}
use Rattle.propagation.specs.Found.{cost_at}
use Rattle.state_dominance.specs.Inside.Product.{Ruler}
use Rattle.ruled_states.specs.declared.table.Place.{Place}

-- the place is that of one of so many functions
pub record HasFunction (count : ℕ) (p : Place) : Type 0 where
  pub low : 1 ≤ p.number
  pub high : p.number ≤ count

-- at the minute the state of the place is a better one, and costs no more
pub record IsCutAt (r : Ruler) (functions : List (List Piece)) (state : ℕ) (p : Place) (t x : ℕ) : Type 0 where
  pub other : p.state ≡ state → ⊥
  pub better : r.no_worse p.state state ≡ true
  pub cost : ℕ
  pub known : cost_at functions p.number t ≡ Some cost
  pub within : cost ≤ x

-- what is left of the costs is what the state of the place doesn't cut
pub record IsCut (r : Ruler) (functions : List (List Piece)) (state : ℕ) (p : Place) (f g : ℕ → Option ℕ) : Type 0 where
  pub kept : (t x : ℕ) → g t ≡ Some x → f t ≡ Some x
  pub clear : (t x : ℕ) → g t ≡ Some x → IsCutAt r functions state p t x → ⊥
  pub left : (t x : ℕ) → f t ≡ Some x → (g t ≡ Some x) ⊎ IsCutAt r functions state p t x

-- the same for all places of a list
pub record AreCut (r : Ruler) (functions : List (List Piece)) (state : ℕ) (places : List Place) (f g : ℕ → Option ℕ) : Type 0 where
  pub kept : (t x : ℕ) → g t ≡ Some x → f t ≡ Some x
  pub clear : (p : Place) → Contains places p → (t x : ℕ) → g t ≡ Some x → IsCutAt r functions state p t x → ⊥
  pub left : (t x : ℕ) → f t ≡ Some x → (g t ≡ Some x) ⊎ ((p : Place) × Contains places p × IsCutAt r functions state p t x)
