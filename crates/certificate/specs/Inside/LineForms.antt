-- The forms of single lines as functions (source: own).
use Rattle.std.specs.Prelude.{ℕ, ◌==◌, ◌&&◌, ◌||◌, Option, Some, None, List, [], ◌∷◌, codes, nat_le, nat_lt, if◌then◌else◌, option_and_then, option_map}
use Rattle.std.specs.List.{slice_split}
use Rattle.std.specs.Str.{bytes_eq}
use Rattle.route_base.specs.Digits.{plain_number_of}
use Rattle.route_base.specs.declared.limits.TheConstants.{HIGHEST_COST, LAST_INSTANT, MOST_ARCS, MOST_NODES}
use Rattle.route_base.specs.declared.types.Bound.{Bound}
use Rattle.route_base.specs.declared.types.Leg.{Leg}
use Rattle.route_base.specs.declared.types.Leg.TheVariants.{Drive, Wait}
use Rattle.route_base.specs.declared.types.NodeId.{NodeId}
use Rattle.route_base.specs.declared.types.Pair.{Pair}
use Rattle.cost_functions.specs.declared.TheConstants.{HIGHEST_PIECE_COST}
use Rattle.cost_functions.specs.declared.pieces.Piece.{Piece}
use Rattle.certificate.specs.CertificateText.{Tokens}
use Rattle.certificate.specs.declared.limits.TheConstants.{LONGEST_BOUND}

-- the tokens of a line without its line feed
abbrev pub spaced_tokens : List ℕ → Tokens
spaced_tokens line = slice_split (λ b. b == 32) line

-- the plain number of a token, where it is within these limits
abbrev pub number_within : ℕ → ℕ → List ℕ → Option ℕ
number_within least most token = option_and_then (λ n. if nat_le least n && nat_le n most then Some n else None) (plain_number_of token)

-- a node's number
abbrev pub node_from : List ℕ → Option NodeId
node_from token = option_map (λ n. record { 0 = n }) (number_within 1 MOST_NODES token)

-- a leg of a word and a number
abbrev pub leg_from : List ℕ → List ℕ → Option Leg
leg_from word number =
    if bytes_eq word (codes "drive") then option_map (λ n. Drive (record { 0 = n })) (number_within 1 MOST_ARCS number)
    else if bytes_eq word (codes "wait") then option_map (λ n. Wait n) (number_within 1 LAST_INSTANT number)
    else None

-- the leg of a line
abbrev pub leg_in : Tokens → Option Leg
leg_in (word ∷ number ∷ []) = leg_from word number
leg_in tokens = None

-- a pair of two numbers
abbrev pub pair_from : List ℕ → List ℕ → Option Pair
pair_from arrival cost =
    option_and_then (λ a. option_map (λ c. record { arrival = a; cost = c }) (number_within 0 HIGHEST_PIECE_COST cost)) (number_within 0 LAST_INSTANT arrival)

-- the pair of a line, and the token of its number of legs
abbrev pub pair_in : Tokens → Option (Pair × List ℕ)
pair_in (word ∷ arrival ∷ cost ∷ legs ∷ []) = if bytes_eq word (codes "pair") then option_map (λ p. (p, legs)) (pair_from arrival cost) else None
pair_in tokens = None

-- bounds of two numbers
abbrev pub bound_from : List ℕ → List ℕ → Option Bound
bound_from minutes cost =
    option_and_then (λ m. option_map (λ c. record { minutes = m; cost = c }) (number_within 0 HIGHEST_PIECE_COST cost)) (number_within 0 LONGEST_BOUND minutes)

-- the node and the bounds of a line
abbrev pub bound_in : Tokens → Option (NodeId × Bound)
bound_in (word ∷ node ∷ minutes ∷ cost ∷ []) =
    if bytes_eq word (codes "bound") then option_and_then (λ v. option_map (λ b. (v, b)) (bound_from minutes cost)) (node_from node) else None
bound_in tokens = None

-- a piece of four numbers, where it has minutes, and no slope where it has one minute
abbrev pub piece_from : List ℕ → List ℕ → List ℕ → List ℕ → Option Piece
piece_from lo hi cost slope =
    option_and_then (λ l. option_and_then (λ h. option_and_then (λ c. option_and_then (λ s.
    if nat_lt l h || (l == h && s == 0) then Some (record { lo = l; hi = h; cost = c; slope = s }) else None)
    (number_within 0 HIGHEST_COST slope)) (number_within 0 HIGHEST_PIECE_COST cost)) (number_within 0 LAST_INSTANT hi)) (number_within 0 LAST_INSTANT lo)

-- the node and the piece of a line
abbrev pub piece_in : Tokens → Option (NodeId × Piece)
piece_in (word ∷ node ∷ lo ∷ hi ∷ cost ∷ slope ∷ []) =
    if bytes_eq word (codes "piece") then option_and_then (λ v. option_map (λ p. (v, p)) (piece_from lo hi cost slope)) (node_from node) else None
piece_in tokens = None

-- the piece of a line, where it is of this node
abbrev pub piece_at : NodeId → Tokens → Option Piece
piece_at node tokens = option_and_then (λ e. if e.0.0 == node.0 then Some e.1 else None) (piece_in tokens)

-- the token behind a word
abbrev pub count_in : List ℕ → Tokens → Option (List ℕ)
count_in word (w ∷ count ∷ []) = if bytes_eq w word then Some count else None
count_in word tokens = None
