-- The costs of states by their codes (source: own; no law).
use Rattle.std.specs.Prelude.{◌≡◌, ℕ, ◌^◌, ◌<◌, Some, List}
use Rattle.route_base.specs.Net.{at_number}
use Rattle.route_base.specs.declared.types.Pair.{Pair}
use Rattle.route_base.specs.declared.types.Run.{Run}
use Rattle.cost_functions.specs.declared.pieces.Piece.{Piece}
use Rattle.propagation.specs.Found.{cost_at}
use Rattle.propagation.specs.Inside.Invariants.{Progress}
use Rattle.propagation.specs.Inside.States.{is_pending}
use Rattle.ruled_states.specs.Inside.Tables.{number_in}
use Rattle.ruled_states.specs.declared.table.Info.{Info}

-- the base of codes: numbers of nodes, arcs and rests are of fewer bits
abbrev pub base : ℕ
base = 2 ^ 64

-- what has been found, by code
abbrev pub found_by : List Info → List (List Piece) → List (List Run) → List Pair → Progress
found_by infos functions pending pairs = record {
  cost = λ c t. cost_at functions (number_in infos c) t;
  pending = λ c t. is_pending pending (number_in infos c) t;
  pairs = pairs;
}

-- the nodes of states are below the base
abbrev pub HaveSmallNodes : List Info → Type 0
HaveSmallNodes infos = (n : ℕ) (i : Info) → at_number infos n ≡ Some i → i.node.0 < base
