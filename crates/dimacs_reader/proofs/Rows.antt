-- Worked files: what the definitions say of them, by computing.
use Rattle.std.proofs.Common.{◌≡◌, ℕ, List, [], ◌∷◌, Some, None, refl}
use Rattle.std.specs.Prelude.{codes}
use Rattle.route_base.specs.declared.faults.Cause.TheVariants.{NodeRange, ArcCount, BadForm, NoProblemLine, SecondProblemLine, SizeLimit, WeightRange}
use Rattle.dimacs_reader.specs.Lines.{lines_in, line_of, tokens_of}
use Rattle.dimacs_reader.specs.Stated.{stated_in, arc_with}
use Rattle.dimacs_reader.specs.Faults.{fault_of, first_fault, cause_of, cause_at_end}
use Rattle.dimacs_reader.specs.GraphModel.{graph_of}

abbrev triangle : List ℕ
triangle = codes "p sp 3 3\na 1 2 60\na 2 3 60\na 1 3 300\n"

triangle_graph : graph_of triangle ≡ record { nodes = 3; arcs = arc_with 1 2 60 ∷ arc_with 2 3 60 ∷ arc_with 1 3 300 ∷ [] }
unfolding graph_of stated_in lines_in line_of tokens_of
triangle_graph = refl

triangle_faultless : fault_of triangle ≡ None
unfolding fault_of first_fault cause_of cause_at_end stated_in lines_in line_of tokens_of
triangle_faultless = refl

node_range : fault_of (codes "p sp 3 2\na 1 2 60\na 1 4 60\n") ≡ Some (3, NodeRange)
unfolding fault_of first_fault cause_of cause_at_end stated_in lines_in line_of tokens_of
node_range = refl

arcs_missing : fault_of (codes "p sp 3 2\na 1 2 60\n") ≡ Some (3, ArcCount)
unfolding fault_of first_fault cause_of cause_at_end stated_in lines_in line_of tokens_of
arcs_missing = refl

three_tokens : fault_of (codes "p sp 3 2\na 1 2 60\na 1 3\n") ≡ Some (3, BadForm)
unfolding fault_of first_fault cause_of cause_at_end stated_in lines_in line_of tokens_of
three_tokens = refl

arc_more : fault_of (codes "p sp 3 1\na 1 2 60\n\na 1 3 60\n") ≡ Some (4, ArcCount)
unfolding fault_of first_fault cause_of cause_at_end stated_in lines_in line_of tokens_of
arc_more = refl

no_problem_line : fault_of (codes "c a comment\n") ≡ Some (2, NoProblemLine)
unfolding fault_of first_fault cause_of cause_at_end stated_in lines_in line_of tokens_of
no_problem_line = refl

arc_first : fault_of (codes "a 9 9 0\np sp 3 1\n") ≡ Some (1, NoProblemLine)
unfolding fault_of first_fault cause_of cause_at_end stated_in lines_in line_of tokens_of
arc_first = refl

second_problem_line : fault_of (codes "p sp 3 0\np sp 0 0\n") ≡ Some (2, SecondProblemLine)
unfolding fault_of first_fault cause_of cause_at_end stated_in lines_in line_of tokens_of
second_problem_line = refl

size_limit : fault_of (codes "p sp 500001 0") ≡ Some (1, SizeLimit)
unfolding fault_of first_fault cause_of cause_at_end stated_in lines_in line_of tokens_of
size_limit = refl

weight_range : fault_of (codes "p sp 1 1\na 1 1 10081\n") ≡ Some (2, WeightRange)
unfolding fault_of first_fault cause_of cause_at_end stated_in lines_in line_of tokens_of
weight_range = refl

-- a comment, further blanks, a carriage return before a line feed, an empty line, no line feed at the end
abbrev loose : List ℕ
loose = codes "c two arcs\n p  sp\t3 2\r\n\na 1 2 60 \r\na 2 3 0060"

loose_faultless : fault_of loose ≡ None
unfolding fault_of first_fault cause_of cause_at_end stated_in lines_in line_of tokens_of
loose_faultless = refl

loose_graph : graph_of loose ≡ record { nodes = 3; arcs = arc_with 1 2 60 ∷ arc_with 2 3 60 ∷ [] }
unfolding graph_of stated_in lines_in line_of tokens_of
loose_graph = refl

-- a carriage return that stands before no line feed is a byte of its line
return_at_end : fault_of (codes "p sp 1 0\r") ≡ Some (1, BadForm)
unfolding fault_of first_fault cause_of cause_at_end stated_in lines_in line_of tokens_of
return_at_end = refl

empty_file : fault_of (codes "") ≡ Some (1, NoProblemLine)
unfolding fault_of first_fault cause_of cause_at_end stated_in lines_in line_of tokens_of
empty_file = refl

-- comments and empty lines are passed over, and count as lines
comment_counts : fault_of (codes "c one\np sp 3 1\n c two\na 1 4 60\n") ≡ Some (4, NodeRange)
unfolding fault_of first_fault cause_of cause_at_end stated_in lines_in line_of tokens_of
comment_counts = refl

arcs_missing_after_comments : fault_of (codes "p sp 3 2\n\na 1 2 60\nc end") ≡ Some (5, ArcCount)
unfolding fault_of first_fault cause_of cause_at_end stated_in lines_in line_of tokens_of
arcs_missing_after_comments = refl

-- the first of two faults
first_of_two : fault_of (codes "p sp 3 1\na 1 2 0\nx\n") ≡ Some (2, WeightRange)
unfolding fault_of first_fault cause_of cause_at_end stated_in lines_in line_of tokens_of
first_of_two = refl

form_before_range : fault_of (codes "a 9 9\n") ≡ Some (1, BadForm)
unfolding fault_of first_fault cause_of cause_at_end stated_in lines_in line_of tokens_of
form_before_range = refl

range_before_weight : fault_of (codes "p sp 3 0\na 1 4 0\n") ≡ Some (2, NodeRange)
unfolding fault_of first_fault cause_of cause_at_end stated_in lines_in line_of tokens_of
range_before_weight = refl

weight_before_count : fault_of (codes "p sp 3 0\na 1 2 0\n") ≡ Some (2, WeightRange)
unfolding fault_of first_fault cause_of cause_at_end stated_in lines_in line_of tokens_of
weight_before_count = refl

five_tokens : fault_of (codes "p sp 1 0 0\n") ≡ Some (1, BadForm)
unfolding fault_of first_fault cause_of cause_at_end stated_in lines_in line_of tokens_of
five_tokens = refl

-- only one carriage return, right before the line feed, belongs to the line end
two_returns : fault_of (codes "p sp 1 0\r\r\n") ≡ Some (1, BadForm)
unfolding fault_of first_fault cause_of cause_at_end stated_in lines_in line_of tokens_of
two_returns = refl
