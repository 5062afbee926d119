-- The entries of a certificate as they are made from lists with a place for each node (source: own; no law).
use Rattle.std.specs.Prelude.{◌≡◌, ℕ, Option, Some, None, List, [], ◌∷◌}
use Rattle.route_base.specs.Net.{at_number}
use Rattle.route_base.specs.declared.types.NodeId.{NodeId}
use Rattle.cost_functions.specs.declared.pieces.Piece.{Piece}
use Rattle.certificate.specs.ByNode.{item_at, AreRising}

-- nodes rise, and each node has exactly its item
pub record AreEntriesOf {A : Type 0} (items : ℕ → Option A) (entries : List (NodeId × A)) : Type 0 where
  pub rising : AreRising entries
  pub at : (v : ℕ) → item_at entries v ≡ items v

-- the function, where it has pieces
abbrev pub some_pieces : Option (List Piece) → Option (List Piece)
some_pieces None = None
some_pieces (Some []) = None
some_pieces (Some (p ∷ ps)) = Some (p ∷ ps)

-- the function of a node, where it has pieces
abbrev pub pieces_of : List (List Piece) → ℕ → Option (List Piece)
pieces_of functions v = some_pieces (at_number functions v)
