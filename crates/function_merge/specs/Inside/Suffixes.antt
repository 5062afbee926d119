-- Pieces that are left from a minute on (source: own; no law).
use Rattle.std.specs.Prelude.{◌≡◌, ℕ, ◌≤◌, ◌<◌, List, ◌++◌, All}
use Rattle.cost_functions.specs.Pieces.{ArePieces, AreSmallPieces}
use Rattle.cost_functions.specs.Building.{AreBuilt}
use Rattle.cost_functions.specs.declared.pieces.Piece.{Piece}

-- pieces in range, of which none ends before the minute
pub record AreLeftFrom (from : ℕ) (ps : List Piece) : Type 0 where
  pub pieces : ArePieces ps
  pub small : AreSmallPieces ps
  pub reach : All (λ p. from ≤ p.hi) ps

-- built pieces are those of a front and of a back, which is behind the front
pub record AreParts (ps xs ys : List Piece) : Type 0 where
  pub both : ps ≡ xs ++ ys
  pub front : AreBuilt xs
  pub back : AreBuilt ys
  pub apart : All (λ p. All (λ q. q.hi < p.lo) xs) ys
