-- Texts as they are appended (source: own).
use Rattle.std.specs.Prelude.{ℕ, List, ◌∷◌, flat_map, decimal}
use Rattle.route_base.specs.declared.types.Bound.{Bound}
use Rattle.route_base.specs.declared.types.Leg.{Leg}
use Rattle.route_base.specs.declared.types.NodeId.{NodeId}
use Rattle.route_base.specs.declared.types.Route.{Route}
use Rattle.cost_functions.specs.declared.pieces.Piece.{Piece}
use Rattle.certificate.specs.CertificateText.{line_text, leg_line, route_lines, bound_line, piece_line, function_lines}

-- a number with a space before it
abbrev pub spaced : ℕ → List ℕ
spaced n = 32 ∷ decimal n

-- the text of a leg
abbrev pub leg_text : Leg → List ℕ
leg_text leg = line_text (leg_line leg)

-- the text of a route
abbrev pub route_text : Route → List ℕ
route_text route = flat_map line_text (route_lines route)

-- the text of a node's bounds
abbrev pub bound_text : NodeId × Bound → List ℕ
bound_text e = line_text (bound_line e)

-- the text of a piece
abbrev pub piece_text : NodeId → Piece → List ℕ
piece_text v p = line_text (piece_line v p)

-- the text of a node's function
abbrev pub function_text : NodeId × List Piece → List ℕ
function_text e = flat_map line_text (function_lines e)
