-- The next segment of the lower envelope of two functions (source: own; no law).
use Rattle.std.specs.Prelude.{◌≡◌, ℕ, ◌<◌, ◌≤◌, Bool, true, false, Some, None, List}
use Rattle.cost_functions.specs.Lines.{line_at, IsSmallPiece}
use Rattle.cost_functions.specs.declared.pieces.Piece.{Piece}
use Rattle.route_base.specs.declared.limits.TheConstants.{LAST_INSTANT}
use Rattle.function_merge.specs.Least.{least_at, better_at}
use Rattle.function_merge.specs.declared.lower_envelope.Segment.{Segment}
use Rattle.function_merge.specs.declared.lower_envelope.Segment.TheVariants.{Kept, Improved}

abbrev pub piece_of : Segment → Piece
piece_of (Kept piece) = piece
piece_of (Improved piece) = piece

-- whether it is better than the first function
abbrev pub improves : Segment → Bool
improves (Kept piece) = false
improves (Improved piece) = true

-- the next minutes from one on at which there is a value, all from one function
pub record IsNextSegment (f g : List Piece) (from : ℕ) (s : Segment) : Type 0 where
  pub starts : from ≤ (piece_of s).lo
  pub filled : (piece_of s).lo ≤ (piece_of s).hi
  pub minutes : (piece_of s).hi ≤ LAST_INSTANT
  pub small : IsSmallPiece (piece_of s)
  pub gap_least : (t : ℕ) → from ≤ t → t < (piece_of s).lo → least_at f g t ≡ None
  pub gap_better : (t : ℕ) → from ≤ t → t < (piece_of s).lo → better_at f g t ≡ false
  pub least : (t : ℕ) → (piece_of s).lo ≤ t → t ≤ (piece_of s).hi → least_at f g t ≡ Some (line_at (piece_of s) t)
  pub better : (t : ℕ) → (piece_of s).lo ≤ t → t ≤ (piece_of s).hi → better_at f g t ≡ improves s
