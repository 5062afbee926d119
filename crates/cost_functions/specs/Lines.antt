-- Pieces of a cost function, each a line over some minutes (source: SEA 2020, piecewise linear cost profiles, in whole minutes).
use Rattle.std.specs.Prelude.{◌≡◌, ℕ, ◌+◌, ◌*◌, ◌-◌, ◌<◌, ◌≤◌, Bool, ◌&&◌, nat_le}
use Rattle.cost_functions.specs.declared.pieces.Piece.{Piece}
use Rattle.route_base.specs.declared.limits.TheConstants.{LAST_INSTANT, HIGHEST_COST}
use Rattle.cost_functions.specs.declared.TheConstants.{HIGHEST_PIECE_COST}

-- the piece has the minute
abbrev pub is_on_piece : ℕ → Piece → Bool
is_on_piece t p = nat_le p.lo t && nat_le t p.hi

-- the cost on the piece's line, from the piece's first minute on
abbrev pub line_at : Piece → ℕ → ℕ
line_at p t = p.cost + p.slope * (t - p.lo)

-- some minutes, numbers in range, and slope 0 where there is only one minute
pub record IsPiece (p : Piece) : Type 0 where
  pub filled : p.lo ≤ p.hi
  pub minutes : p.hi ≤ LAST_INSTANT
  pub cost : p.cost ≤ HIGHEST_PIECE_COST
  pub slope : p.slope ≤ HIGHEST_COST
  pub single : p.lo ≡ p.hi → p.slope ≡ 0

-- no value on the piece is above the highest cost, since lines do not fall
abbrev pub IsSmallPiece : Piece → Type 0
IsSmallPiece p = line_at p p.hi ≤ HIGHEST_COST

-- the piece is on the line of this slope that has this cost at an earlier minute or at its first
pub record IsOnLine (from cost slope : ℕ) (p : Piece) : Type 0 where
  pub starts : p.cost ≡ cost + slope * (p.lo - from)
  pub rises : p.lo < p.hi → p.slope ≡ slope

-- the second begins right behind the first, and both are on one line of this slope
pub record AreOneLine (p q : Piece) (slope : ℕ) : Type 0 where
  pub touch : p.hi + 1 ≡ q.lo
  pub first : IsOnLine p.lo p.cost slope p
  pub second : IsOnLine p.lo p.cost slope q
