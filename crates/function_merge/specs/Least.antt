-- The lesser of two functions, minute by minute (source: SEA 2020, merging cost profiles).
use Rattle.std.specs.Prelude.{◌≡◌, ℕ, min, Bool, true, false, nat_lt, if◌then◌else◌, Option, Some, None, List}
use Rattle.cost_functions.specs.Building.{AreBuilt}
use Rattle.cost_functions.specs.Pieces.{value_at}
use Rattle.route_base.specs.Runs.{any_has}
use Rattle.route_base.specs.declared.types.Run.{Run}
use Rattle.cost_functions.specs.declared.pieces.Piece.{Piece}

-- the lesser of the values that are there
abbrev pub least_of : Option ℕ → Option ℕ → Option ℕ
least_of None b = b
least_of (Some a) None = Some a
least_of (Some a) (Some b) = Some (min a b)

-- the second value is there, and the first is not or is larger
abbrev pub is_better : Option ℕ → Option ℕ → Bool
is_better a None = false
is_better None (Some b) = true
is_better (Some a) (Some b) = nat_lt b a

-- the lesser value of two functions at a minute
abbrev pub least_at : List Piece → List Piece → ℕ → Option ℕ
least_at f g t = least_of (value_at f t) (value_at g t)

-- whether g is better than f at a minute
abbrev pub better_at : List Piece → List Piece → ℕ → Bool
better_at f g t = is_better (value_at f t) (value_at g t)

-- a built function has the lesser values of f and g, and a set the minutes at which g is better
pub record IsLeast (f g function : List Piece) (improved : List Run) : Type 0 where
  pub values : (t : ℕ) → value_at function t ≡ least_at f g t
  pub better : (t : ℕ) → any_has improved t ≡ better_at f g t
  pub built : AreBuilt function

-- the value of g at a minute at which it is better than f, and none elsewhere
abbrev pub better_part_at : List Piece → List Piece → ℕ → Option ℕ
better_part_at f g t = if better_at f g t then value_at g t else None
