-- Functions that are judged in place of those of the certificate (source: own; no law).
use Rattle.std.specs.Prelude.{◌≡◌, ℕ, ⊤, List, [], ◌∷◌, All}
use Rattle.route_base.specs.declared.types.NodeId.{NodeId}
use Rattle.cost_functions.specs.Pieces.{value_at, IsReduced, AreSmallPieces}
use Rattle.cost_functions.specs.declared.pieces.Piece.{Piece}
use Rattle.certificate_check.specs.Conditions.{value_of}

-- both have the same value at each node and minute
abbrev pub HaveSameValues : List (NodeId × List Piece) → List (NodeId × List Piece) → Type 0
HaveSameValues functions given = (v t : ℕ) → value_of functions v t ≡ value_of given v t

-- each function is reduced, unless it has a value above the highest cost
abbrev pub AreReducedWhereSmall : List (NodeId × List Piece) → Type 0
AreReducedWhereSmall functions = All (λ e. AreSmallPieces e.1 → IsReduced e.1) functions

-- the functions have the values of those that are given, and are reduced
pub record IsReduction (functions given : List (NodeId × List Piece)) : Type 0 where
  pub values : HaveSameValues functions given
  pub reduced : AreReducedWhereSmall functions

-- the functions are of the same nodes one by one, with the same values
abbrev pub AreAlike : List (NodeId × List Piece) → List (NodeId × List Piece) → Type 0
AreAlike [] [] = ⊤
AreAlike [] (e ∷ es) = ⊥
AreAlike (d ∷ ds) [] = ⊥
AreAlike (d ∷ ds) (e ∷ es) = (d.0 ≡ e.0) × ((t : ℕ) → value_at d.1 t ≡ value_at e.1 t) × AreAlike ds es
