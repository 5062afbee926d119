-- A piece joined with the one before it (source: own; no law).
use Rattle.std.specs.Prelude.{◌≡◌, ℕ, ◌<◌, ◌≤◌, List, [], ◌∷◌, ◌++◌, All}
use Rattle.cost_functions.specs.declared.pieces.Piece.{Piece}
use Rattle.cost_functions.specs.Lines.{IsPiece, IsSmallPiece, AreOneLine}
use Rattle.cost_functions.specs.Pieces.{value_at}
use Rattle.cost_functions.specs.Building.{AreBuilt}

-- one piece with the values of two neighbours; a piece is on one line with it only where it is with the first, or with the second
pub record IsJoined (p q joined : Piece) : Type 0 where
  pub piece : IsPiece joined
  pub small : IsSmallPiece joined
  pub lo : joined.lo ≡ p.lo
  pub hi : joined.hi ≡ q.hi
  pub value : (t : ℕ) → value_at (joined ∷ []) t ≡ value_at (p ∷ q ∷ []) t
  pub reduced : (z : Piece) → IsPiece z → z.hi < p.lo → ((slope : ℕ) → AreOneLine z p slope → ⊥) → (slope : ℕ) → AreOneLine z joined slope → ⊥
  pub beyond : (z : Piece) (slope : ℕ) → AreOneLine joined z slope → AreOneLine q z slope

-- the new pieces are built, have the values of the old ones and of the next piece behind them, and end with it
pub record IsExtended (ps : List Piece) (next : Piece) (new : List Piece) : Type 0 where
  pub built : AreBuilt new
  pub values : (t : ℕ) → value_at new t ≡ value_at (ps ++ next ∷ []) t
  pub ended : All (λ q. q.hi ≤ next.hi) new
  pub apart : (z : Piece) → next.hi < z.lo → ((slope : ℕ) → AreOneLine next z slope → ⊥) → All (λ q. (slope : ℕ) → AreOneLine q z slope → ⊥) new
