-- Lines of a graph file and their meaning (source: DIMACS, 9th Implementation Challenge, shortest paths).
use Rattle.std.specs.Prelude.{ℕ, ◌==◌, ◌&&◌, Bool, true, false, Option, Some, None, List, [], ◌∷◌, map, codes, if◌then◌else◌}
use Rattle.std.specs.List.{slice_split, filter}
use Rattle.std.specs.Str.{bytes_eq}
use Rattle.std.specs.Str.Lines.{lines}
use Rattle.route_base.specs.Digits.{number_of}
use Rattle.route_base.specs.Forms.{is_blank}
use Rattle.dimacs_reader.specs.declared.lines.Line.{Line}
use Rattle.dimacs_reader.specs.declared.lines.Line.TheVariants.{Ignored, Problem, Arc, Bad}

-- cut at line feeds; a carriage return right before one belongs to the line end; what follows the last is a line unless it is empty
abbrev pub lines_of : List ℕ → List (List ℕ)
lines_of bytes = lines bytes

-- whether there is a byte
abbrev pub has_bytes : List ℕ → Bool
has_bytes [] = false
has_bytes (b ∷ bs) = true

-- the longest runs of bytes that are no blanks
unfoldable pub tokens_of : List ℕ → List (List ℕ)
tokens_of line = filter has_bytes (slice_split is_blank line)

-- the problem line of n nodes and m arcs
abbrev pub problem_from : Option ℕ → Option ℕ → Line
problem_from (Some n) (Some m) = Problem n m
problem_from (Some n) None = Bad
problem_from None m = Bad

-- the problem line of two tokens
abbrev pub problem_of : List ℕ → List ℕ → Line
problem_of n m = problem_from (number_of n) (number_of m)

-- the arc from u to v of w minutes
abbrev pub arc_from : Option ℕ → Option ℕ → Option ℕ → Line
arc_from (Some u) (Some v) (Some w) = Arc u v w
arc_from (Some u) (Some v) None = Bad
arc_from (Some u) None w = Bad
arc_from None v w = Bad

-- the arc line of three tokens
abbrev pub arc_of : List ℕ → List ℕ → List ℕ → Line
arc_of u v w = arc_from (number_of u) (number_of v) (number_of w)

-- the line of four tokens: `p sp n m`, `a u v w`, or a bad one
abbrev pub line_of_four : List ℕ → List ℕ → List ℕ → List ℕ → Line
line_of_four a b c d =
    if bytes_eq a (codes "p") && bytes_eq b (codes "sp") then problem_of c d
    else if bytes_eq a (codes "a") then arc_of b c d else Bad

-- whether the token begins a comment: its first byte is c
abbrev pub is_comment : List ℕ → Bool
is_comment [] = false
is_comment (b ∷ bs) = b == 99

-- the line of several tokens: it is bad unless there are four
abbrev pub line_of_more : List ℕ → List (List ℕ) → Line
line_of_more a (b ∷ c ∷ d ∷ []) = line_of_four a b c d
line_of_more a others = Bad

-- the line of tokens: one without tokens is ignored, as a comment is
abbrev pub line_of_tokens : List (List ℕ) → Line
line_of_tokens [] = Ignored
line_of_tokens (a ∷ others) = if is_comment a then Ignored else line_of_more a others

-- the meaning of a line
unfoldable pub line_of : List ℕ → Line
line_of line = line_of_tokens (tokens_of line)

-- the lines of a file
unfoldable pub lines_in : List ℕ → List Line
lines_in bytes = map line_of (lines_of bytes)
