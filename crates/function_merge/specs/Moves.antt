-- The values of a function that is cut or shifted (source: SEA 2020, linking a cost profile with an arc).
use Rattle.std.specs.Prelude.{◌≡◌, ℕ, ◌+◌, ◌-◌, ◌≤◌, Option, Some, None, List, nat_le, if◌then◌else◌}
use Rattle.std.specs.Option.{option_map}
use Rattle.route_base.specs.Runs.{any_has}
use Rattle.route_base.specs.declared.types.Run.{Run}
use Rattle.cost_functions.specs.Pieces.{value_at}
use Rattle.cost_functions.specs.declared.pieces.Piece.{Piece}
use Rattle.route_base.specs.declared.limits.TheConstants.{LAST_INSTANT, HIGHEST_COST}

-- the values at the minutes of the runs
abbrev pub kept_at : List Piece → List Run → ℕ → Option ℕ
kept_at ps runs t = if any_has runs t then value_at ps t else None

-- the values that many minutes later, at a cost
abbrev pub moved_at : ℕ → ℕ → (ℕ → Option ℕ) → ℕ → Option ℕ
moved_at minutes cost values t = if nat_le minutes t then option_map (λ v. v + cost) (values (t - minutes)) else None

-- every value stays in range that many minutes later and at this cost
pub record CanMove (minutes cost : ℕ) (values : ℕ → Option ℕ) : Type 0 where
  pub minutes_fit : (t v : ℕ) → values t ≡ Some v → t + minutes ≤ LAST_INSTANT
  pub values_fit : (t v : ℕ) → values t ≡ Some v → v + cost ≤ HIGHEST_COST
