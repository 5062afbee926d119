-- A function that is no larger than an offered value (source: own).
use Rattle.std.specs.Prelude.{◌≡◌, ℕ, ◌≤◌, Some, List}
use Rattle.cost_functions.specs.Pieces.{value_at}
use Rattle.cost_functions.specs.declared.pieces.Piece.{Piece}

-- the function has at the minute a value of at most x
pub record IsNoBetter (f : List Piece) (t x : ℕ) : Type 0 where
  pub least : ℕ
  pub is : value_at f t ≡ Some least
  pub within : least ≤ x
