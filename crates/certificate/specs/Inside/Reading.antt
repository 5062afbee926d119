-- The reading of lines as a function (source: own).
use Rattle.std.specs.Prelude.{◌≡◌, ℕ, ◌==◌, ◌≤◌, ◌&&◌, Bool, true, false, not, zero, suc, Option, Some, None, List, [], ◌∷◌, ◌++◌, length, map, codes, decimal, nat_lt, unwrap_or, if◌then◌else◌, option_and_then, option_map}
use Rattle.std.specs.List.{slice_split}
use Rattle.std.specs.Str.{bytes_eq}
use Rattle.route_base.specs.declared.types.Bound.{Bound}
use Rattle.route_base.specs.declared.types.Leg.{Leg}
use Rattle.route_base.specs.declared.types.Leg.TheVariants.{Drive, Wait}
use Rattle.route_base.specs.declared.types.NodeId.{NodeId}
use Rattle.route_base.specs.declared.types.Pair.{Pair}
use Rattle.route_base.specs.declared.types.Route.{Route}
use Rattle.cost_functions.specs.declared.pieces.Piece.{Piece}
use Rattle.certificate.specs.CertificateText.{Tokens, all_pieces}
use Rattle.certificate.specs.Inside.LineForms.{spaced_tokens, leg_in, pair_in, bound_in, piece_in, piece_at, count_in}
use Rattle.certificate.specs.declared.Certificate.{Certificate}

-- the lines of bytes; behind the last line feed is one more
abbrev pub token_lines : List ℕ → List Tokens
token_lines bytes = map spaced_tokens (slice_split (λ b. b == 10) bytes)

-- a reader of an item from the front, which gives the lines behind it too
abbrev pub Reading : Type 0 → Type 0
Reading A = List Tokens → Option (A × List Tokens)

-- the item of the first line; it is no line where no line feed ends it
abbrev pub first_line : {A : Type 0} → (Tokens → Option A) → Reading A
first_line read [] = None
first_line read (line ∷ []) = None
first_line read (line ∷ next ∷ lines) = option_map (λ x. (x, next ∷ lines)) (read line)

-- items from the front as long as they can be read, but at most this number, and the lines behind them
abbrev pub items_up_to : {A : Type 0} → Reading A → ℕ → List Tokens → List A × List Tokens
items_up_to read zero lines = ([], lines)
items_up_to read (suc k) lines = unwrap_or (option_map (λ r. (r.0 ∷ (items_up_to read k r.1).0, (items_up_to read k r.1).1)) (read lines)) ([], lines)

-- items from the front as long as they can be read, and the lines behind them
abbrev pub items_in : {A : Type 0} → Reading A → List Tokens → List A × List Tokens
items_in read lines = items_up_to read (length lines) lines

-- whether the test passes for each two neighbours
abbrev pub neighbours_pass : {A : Type 0} → (A → A → Bool) → List A → Bool
neighbours_pass test [] = true
neighbours_pass test (x ∷ []) = true
neighbours_pass test (x ∷ y ∷ xs) = test x y && neighbours_pass test (y ∷ xs)

abbrev pub is_wait : Leg → Bool
is_wait (Drive arc) = false
is_wait (Wait minutes) = true

-- whether the second leg may come right behind the first
abbrev pub may_follow_leg : Leg → Leg → Bool
may_follow_leg first second = not (is_wait first && is_wait second)

-- whether the second piece is behind the first
abbrev pub may_follow_piece : Piece → Piece → Bool
may_follow_piece first second = nat_lt first.hi second.lo

-- whether the second entry's node is behind that of the first
abbrev pub may_follow_entry : {A : Type 0} → NodeId × A → NodeId × A → Bool
may_follow_entry first second = nat_lt first.0.0 second.0.0

-- the route of a pair and its legs, where they are as many as announced and no two waits are neighbours
abbrev pub route_behind : Pair × List ℕ → List Leg × List Tokens → Option (Route × List Tokens)
route_behind p r = if bytes_eq p.1 (decimal (length r.0)) && neighbours_pass may_follow_leg r.0 then Some (record { pair = p.0; legs = r.0 }, r.1) else None

-- the route of the first lines
abbrev pub route_in : Reading Route
route_in lines = option_and_then (λ r. route_behind r.0 (items_in (first_line leg_in) r.1)) (first_line pair_in lines)

-- the function of a node and its pieces, where they are apart
abbrev pub function_behind : NodeId → List Piece × List Tokens → Option ((NodeId × List Piece) × List Tokens)
function_behind v r = if neighbours_pass may_follow_piece r.0 then Some ((v, r.0), r.1) else None

-- the function of the first lines
abbrev pub function_in : Reading (NodeId × List Piece)
function_in lines = option_and_then (λ r. function_behind r.0.0 (items_in (first_line (piece_at r.0.0)) lines)) (first_line piece_in lines)

-- the items, where they pass a test and have the size that was announced
abbrev pub as_announced : {A : Type 0} → (List A → ℕ) → (List A → Bool) → List ℕ → List A × List Tokens → Option (List A × List Tokens)
as_announced size passes count r = if passes r.0 && bytes_eq count (decimal (size r.0)) then Some r else None

-- a line of a word and a count, and the items behind it
abbrev pub counted : {A : Type 0} → List ℕ → (List A → ℕ) → (List A → Bool) → Reading A → Reading (List A)
counted word size passes read lines = option_and_then (λ r. as_announced size passes r.0 (items_in read r.1)) (first_line (count_in word) lines)

-- the three blocks of lines
abbrev pub routes_in : Reading (List Route)
routes_in lines = counted (codes "pairs") length (λ routes. true) route_in lines

abbrev pub bounds_in : Reading (List (NodeId × Bound))
bounds_in lines = counted (codes "bounds") length (neighbours_pass may_follow_entry) (first_line bound_in) lines

abbrev pub functions_in : Reading (List (NodeId × List Piece))
functions_in lines = counted (codes "pieces") (λ fs. length (all_pieces fs)) (neighbours_pass may_follow_entry) function_in lines

-- the first line is of a piece of this node
abbrev pub IsFirstNode : NodeId → List Tokens → Type 0
IsFirstNode node lines = (piece : Piece) × (others : List Tokens) × (first_line piece_in lines ≡ Some ((node, piece), others))

-- the lines behind the name and the version
abbrev pub behind_title : List Tokens → Option (List Tokens)
behind_title lines = option_and_then (λ r. if bytes_eq r.0 (codes "1") then Some r.1 else None) (first_line (count_in (codes "lorry-certificate")) lines)

-- whether only the last line and its line feed are left
abbrev pub is_end : List Tokens → Bool
is_end ((word ∷ []) ∷ ([] ∷ []) ∷ []) = bytes_eq word (codes "end")
is_end lines = false

-- the certificate of all lines
abbrev pub certificate_in : List Tokens → Option Certificate
certificate_in lines =
    option_and_then (λ lines. option_and_then (λ r. option_and_then (λ b. option_and_then (λ f.
    if is_end f.1 then Some (record { routes = r.0; bounds = b.0; functions = f.0 }) else None)
    (functions_in b.1)) (bounds_in r.1)) (routes_in lines)) (behind_title lines)

-- the reading of these lines gives this answer, and leaves the others where there is one
abbrev pub Takes : {A : Type 0} → Reading A → List Tokens → Option A → List Tokens → Type 0
Takes read lines None others = read lines ≡ None
Takes read lines (Some x) others = read lines ≡ Some (x, others)

-- these items were read from the front of all lines, and these lines are left
pub record AreTaken {A : Type 0} (read : Reading A) (lines : List Tokens) (items : List A) (others : List Tokens) : Type 0 where
  pub left : ℕ
  pub enough : length others ≤ left
  pub so_far : items_in read lines ≡ (items ++ (items_up_to read left others).0, (items_up_to read left others).1)
