-- The text of a certificate: a list of lines, each a list of tokens (source: own).
use Rattle.std.specs.Prelude.{ℕ, List, [], ◌∷◌, ◌++◌, length, map, flat_map, codes, decimal}
use Rattle.std.specs.List.{join_with_byte}
use Rattle.route_base.specs.declared.types.Bound.{Bound}
use Rattle.route_base.specs.declared.types.Leg.{Leg}
use Rattle.route_base.specs.declared.types.Leg.TheVariants.{Drive, Wait}
use Rattle.route_base.specs.declared.types.NodeId.{NodeId}
use Rattle.route_base.specs.declared.types.Route.{Route}
use Rattle.cost_functions.specs.declared.pieces.Piece.{Piece}
use Rattle.certificate.specs.declared.Certificate.{Certificate}

-- a line is a list of tokens
abbrev pub Tokens : Type 0
Tokens = List (List ℕ)

-- a line's text: one space between neighbouring tokens, and a line feed at the end
abbrev pub line_text : Tokens → List ℕ
line_text tokens = join_with_byte 32 tokens ++ codes "\n"

-- a word, and how many lines or groups of lines of one kind follow
abbrev pub count_line : List ℕ → ℕ → Tokens
count_line word n = word ∷ decimal n ∷ []

-- the line of a leg
abbrev pub leg_line : Leg → Tokens
leg_line (Drive arc) = codes "drive" ∷ decimal arc.0 ∷ []
leg_line (Wait minutes) = codes "wait" ∷ decimal minutes ∷ []

-- the line of a pair, with the number of its legs
abbrev pub pair_line : Route → Tokens
pair_line route = codes "pair" ∷ decimal route.pair.arrival ∷ decimal route.pair.cost ∷ decimal (length route.legs) ∷ []

-- the line of a pair, and then those of its legs
abbrev pub route_lines : Route → List Tokens
route_lines route = pair_line route ∷ map leg_line route.legs

-- the line of a node's bounds
abbrev pub bound_line : NodeId × Bound → Tokens
bound_line e = codes "bound" ∷ decimal e.0.0 ∷ decimal e.1.minutes ∷ decimal e.1.cost ∷ []

-- the line of a piece of a node's function
abbrev pub piece_line : NodeId → Piece → Tokens
piece_line v p = codes "piece" ∷ decimal v.0 ∷ decimal p.lo ∷ decimal p.hi ∷ decimal p.cost ∷ decimal p.slope ∷ []

-- the lines of a node's function
abbrev pub function_lines : NodeId × List Piece → List Tokens
function_lines e = map (piece_line e.0) e.1

-- the pieces of all functions
abbrev pub all_pieces : List (NodeId × List Piece) → List Piece
all_pieces functions = flat_map (λ e. e.1) functions

-- all lines of a certificate: its name and version, the pairs, the bounds, the pieces, and the end
abbrev pub certificate_lines : Certificate → List Tokens
certificate_lines c =
    (codes "lorry-certificate" ∷ codes "1" ∷ [])
    ∷ count_line (codes "pairs") (length c.routes) ∷ flat_map route_lines c.routes
    ++ count_line (codes "bounds") (length c.bounds) ∷ map bound_line c.bounds
    ++ count_line (codes "pieces") (length (all_pieces c.functions)) ∷ flat_map function_lines c.functions
    ++ (codes "end" ∷ []) ∷ []

-- the one text of a certificate
abbrev pub certificate_text_of : Certificate → List ℕ
certificate_text_of c = flat_map line_text (certificate_lines c)
