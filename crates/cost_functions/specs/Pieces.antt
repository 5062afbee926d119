-- Cost functions as lists of pieces (source: SEA 2020, piecewise linear cost profiles, in whole minutes).
use Rattle.std.specs.Prelude.{ℕ, ◌<◌, ◌==◌, Option, Some, None, List, [], ◌∷◌, All, AllPairs, if◌then◌else◌}
use Rattle.cost_functions.specs.declared.pieces.Piece.{Piece}
use Rattle.cost_functions.specs.Lines.{is_on_piece, line_at, IsPiece, IsSmallPiece, AreOneLine}

-- the value at a minute: that of the first piece that has it
unfoldable pub value_at : List Piece → ℕ → Option ℕ
value_at [] t = None
value_at (p ∷ ps) t = if is_on_piece t p then Some (line_at p t) else value_at ps t

-- the value at a minute of a function that may be missing
abbrev pub value_in : Option (List Piece) → ℕ → Option ℕ
value_in None t = None
value_in (Some ps) t = value_at ps t

-- the value of points at a minute: that of the first point at it
unfoldable pub point_at : List (ℕ × ℕ) → ℕ → Option ℕ
point_at [] t = None
point_at (p ∷ ps) t = if p.0 == t then Some p.1 else point_at ps t

-- pieces in range that rise and don't overlap
pub record ArePieces (ps : List Piece) : Type 0 where
  pub each : All IsPiece ps
  pub apart : AllPairs (λ p q. p.hi < q.lo) ps

-- no two pieces touch and are on one line
abbrev pub IsReduced : List Piece → Type 0
IsReduced ps = AllPairs (λ p q. (slope : ℕ) → AreOneLine p q slope → ⊥) ps

-- no value is above the highest cost
abbrev pub AreSmallPieces : List Piece → Type 0
AreSmallPieces ps = All IsSmallPiece ps
