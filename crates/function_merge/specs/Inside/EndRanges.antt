-- Pieces of which the last minute and the last value stay in range (source: own; no law).
use Rattle.std.specs.Prelude.{ℕ, ◌+◌, ◌*◌, ◌-◌, ◌≤◌}
use Rattle.cost_functions.specs.Lines.{line_at}
use Rattle.cost_functions.specs.declared.pieces.Piece.{Piece}
use Rattle.route_base.specs.declared.limits.TheConstants.{LAST_INSTANT, HIGHEST_COST}

-- they stay in range that many minutes later and at this cost
pub record EndsInRange (minutes cost : ℕ) (p : Piece) : Type 0 where
  pub last : p.hi + minutes ≤ LAST_INSTANT
  pub most : line_at p p.hi + cost ≤ HIGHEST_COST

-- the last value stays in range with a wait from the first minute
abbrev pub WaitsInRange : ℕ → ℕ → Piece → Type 0
WaitsInRange weight until p = line_at p p.hi + weight * (until - p.lo) ≤ HIGHEST_COST
