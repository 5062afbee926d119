-- The lines of a drawn graph file: their tokens, and what they say.
use Rattle.std.proofs.Common.{◌≡◌, ℕ, ◌*◌, ◌^◌, ◌<◌, ◌≤◌, true, List, [], ◌∷◌, ◌++◌, length, refl, ap, ◌∙◌, append_assoc, arith}
use Rattle.std.specs.Prelude.{nat_le, codes, decimal, flat_map}
use Rattle.std.specs.List.{AllByRecursion, list_all}
use Rattle.std.proofs.lemmas.Bool.{and_parts, leb-true}
use Rattle.std.proofs.lemmas.Fmt.{decimal_nonempty}
use Rattle.std.proofs.lemmas.List.Elements.{All-weaker, All-from_recursion}
use Rattle.route_base.specs.declared.limits.TheConstants.{MOST_NODES}
use Rattle.route_base.proofs.DecimalDigits.{number_again}
use Rattle.dimacs_reader.specs.Lines.{has_bytes, line_of_tokens}
use Rattle.dimacs_reader.specs.declared.lines.Line.{Line}
use Rattle.dimacs_reader.specs.declared.lines.Line.TheVariants.{Ignored, Problem, Arc}
use Rattle.net_generator.specs.Generated.{comment_text, graph_text, road_text}
use Rattle.net_generator.specs.declared.layout.Road.{Road}
use Rattle.drawn_network.proofs.Decimals.{IsDigit, decimal_bytes}
use Rattle.drawn_network.proofs.DrawnRoads.{IsGoodRoad}
use Rattle.drawn_network.proofs.TokenLines.{IsVisible, line_before, line_then}

has_some : (bs : List ℕ) → 0 < length bs → has_bytes bs ≡ true
has_some [] h = absurd (omega arith)
has_some (b ∷ bs) h = refl

decimal_token : (n : ℕ) → n < 2 ^ 64 → IsVisible (decimal n)
decimal_token n small = record {
  some = has_some (decimal n) (decimal_nonempty n small);
  bytes = All-weaker IsDigit (λ b. 33 ≤ b) (λ b h. omega (arith, h.0)) (decimal n) (decimal_bytes n small);
}

above_blank : (word : List ℕ) → list_all (λ b. nat_le 33 b) word ≡ true → AllByRecursion (λ b. 33 ≤ b) word
above_blank [] h = tt
above_blank (b ∷ bs) h =
    let parts = and_parts (nat_le 33 b) (list_all (λ b. nat_le 33 b) bs) h in (leb-true 33 b parts.0, above_blank bs parts.1)

-- a word is a token, as its bytes show
word_token : (word : List ℕ) → has_bytes word ≡ true → list_all (λ b. nat_le 33 b) word ≡ true → IsVisible word
word_token word some all = record { some = some; bytes = All-from_recursion (λ b. 33 ≤ b) word (above_blank word all) }

-- the tokens of the comment
abbrev pub comment_rest : ℕ → ℕ → ℕ → List (List ℕ)
comment_rest number rows columns = codes "lorry_plan" ∷ decimal number ∷ decimal rows ∷ decimal columns ∷ []

-- the tokens of the problem line
abbrev pub problem_rest : ℕ → ℕ → List (List ℕ)
problem_rest n m = codes "sp" ∷ decimal n ∷ decimal m ∷ []

-- the tokens of a road's line behind the first one, and what the line says
abbrev pub road_rest : Road → List (List ℕ)
road_rest road = decimal road.tail ∷ decimal road.head ∷ decimal road.minutes ∷ []

abbrev pub line_of_road : Road → Line
line_of_road road = Arc road.tail road.head road.minutes

pub comment_tokens : (number rows columns : ℕ) → number < 2 ^ 64 → rows < 2 ^ 64 → columns < 2 ^ 64
    → AllByRecursion IsVisible (codes "c" ∷ comment_rest number rows columns)
comment_tokens number rows columns h k l =
    let word = word_token (codes "c") refl refl in
    let name = word_token (codes "lorry_plan") refl refl in
    (word, (name, (decimal_token number h, (decimal_token rows k, (decimal_token columns l, tt)))))

pub problem_tokens : (n m : ℕ) → n < 2 ^ 64 → m < 2 ^ 64 → AllByRecursion IsVisible (codes "p" ∷ problem_rest n m)
problem_tokens n m h k =
    let word = word_token (codes "p") refl refl in
    let kind = word_token (codes "sp") refl refl in
    (word, (kind, (decimal_token n h, (decimal_token m k, tt))))

pub road_tokens : (nodes : ℕ) (road : Road) → nodes ≤ MOST_NODES → IsGoodRoad nodes road → AllByRecursion IsVisible (codes "a" ∷ road_rest road)
road_tokens nodes road few good =
    let word = word_token (codes "a") refl refl in
    let tail = decimal_token road.tail (omega (arith, good.tail.1, few)) in
    let head = decimal_token road.head (omega (arith, good.head.1, few)) in
    (word, (tail, (head, (decimal_token road.minutes (omega (arith, good.minutes.1)), tt))))

pub comment_says : (number rows columns : ℕ) → line_of_tokens (codes "c" ∷ comment_rest number rows columns) ≡ Ignored
comment_says number rows columns = refl

pub problem_says : (n m : ℕ) → n < 10 ^ 18 → m < 10 ^ 18 → line_of_tokens (codes "p" ∷ problem_rest n m) ≡ Problem n m
problem_says n m h k = rw (number_again n h, number_again m k) refl

pub road_says : (nodes : ℕ) (road : Road) → nodes ≤ MOST_NODES → IsGoodRoad nodes road
    → line_of_tokens (codes "a" ∷ road_rest road) ≡ line_of_road road
road_says nodes road few good =
    rw (
      number_again road.tail (omega (arith, good.tail.1, few)),
      number_again road.head (omega (arith, good.head.1, few)),
      number_again road.minutes (omega (arith, good.minutes.1)),
    ) refl

-- the text of a graph is the comment, the problem line and the lines of the roads
abbrev pub problem_text : ℕ → List Road → List ℕ
problem_text n roads = line_before (codes "p") (problem_rest n (length roads)) (flat_map road_text roads)

comment_line : (number rows columns : ℕ) → comment_text number rows columns ≡ line_before (codes "c") (comment_rest number rows columns) []
comment_line number rows columns = simp append_assoc refl

-- a line of two words and two numbers, joined to the right
joined : (front n m rest : List ℕ) → front ++ codes "p sp " ++ n ++ codes " " ++ m ++ codes "\n" ++ rest
    ≡ front ++ line_before (codes "p") (codes "sp" ∷ n ∷ m ∷ []) rest
joined front n m rest = simp append_assoc refl

pub graph_lines : (number rows columns : ℕ) (roads : List Road)
    → graph_text number rows columns roads ≡ line_before (codes "c") (comment_rest number rows columns) (problem_text (rows * columns) roads)
graph_lines number rows columns roads =
    joined (comment_text number rows columns) (decimal (rows * columns)) (decimal (length roads)) (flat_map road_text roads)
    ∙ ap (λ (bs : List ℕ). bs ++ problem_text (rows * columns) roads) (comment_line number rows columns)
    ∙ line_then (codes "c") (comment_rest number rows columns) (problem_text (rows * columns) roads)

road_line : (road : Road) → road_text road ≡ line_before (codes "a") (road_rest road) []
road_line road = simp append_assoc refl

pub road_lines : (road : Road) (roads : List Road) → flat_map road_text (road ∷ roads)
    ≡ line_before (codes "a") (road_rest road) (flat_map road_text roads)
road_lines road roads =
    ap (λ (bs : List ℕ). bs ++ flat_map road_text roads) (road_line road)
    ∙ line_then (codes "a") (road_rest road) (flat_map road_text roads)
