-- The next piece of a function with waiting (source: own; no law).
use Rattle.std.specs.Prelude.{◌≡◌, ℕ, ◌<◌, ◌≤◌, nat_le, if◌then◌else◌, Bool, Option, Some, None, List}
use Rattle.cost_functions.specs.Lines.{line_at}
use Rattle.cost_functions.specs.Pieces.{value_at}
use Rattle.cost_functions.specs.declared.pieces.Piece.{Piece}
use Rattle.function_merge.specs.Inside.CarriedWaits.{carried_to, waited_at}

-- the values up to a minute
abbrev pub until_at : ℕ → (ℕ → Option ℕ) → ℕ → Option ℕ
until_at until values t = if nat_le t until then values t else None

-- the next minutes, from one on up to another, at which there is a cost, on one line
pub record IsNextWait (values : ℕ → Option ℕ) (allowed : ℕ → Bool) (weight from until : ℕ) (piece : Piece) : Type 0 where
  pub starts : from ≤ piece.lo
  pub filled : piece.lo ≤ piece.hi
  pub upto : piece.hi ≤ until
  pub gap : (t : ℕ) → from ≤ t → t < piece.lo → waited_at values allowed weight t ≡ None
  pub line : (t : ℕ) → piece.lo ≤ t → t ≤ piece.hi → waited_at values allowed weight t ≡ Some (line_at piece t)

-- it is the next piece of each function with waiting that has the values of the pieces from a minute on and this cost there
abbrev pub IsNextFor : List Piece → (ℕ → Bool) → ℕ → Option ℕ → ℕ → ℕ → Piece → Type 0
IsNextFor left allowed from carried weight until piece =
    (values : ℕ → Option ℕ) → ((t : ℕ) → from ≤ t → values t ≡ value_at left t) → carried_to values allowed weight from ≡ carried
    → IsNextWait values allowed weight from until piece

-- none of these functions has a value from the minute on up to another
abbrev pub IsNoneLeft : List Piece → (ℕ → Bool) → ℕ → Option ℕ → ℕ → ℕ → Type 0
IsNoneLeft left allowed from carried weight until =
    (values : ℕ → Option ℕ) → ((t : ℕ) → from ≤ t → values t ≡ value_at left t) → carried_to values allowed weight from ≡ carried
    → (t : ℕ) → from ≤ t → t ≤ until → waited_at values allowed weight t ≡ None
