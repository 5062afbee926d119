-- A file whose first lines are read.
use Rattle.std.proofs.Common.{◌≡◌, ℕ, ◌+◌, ◌≤◌, List, [], ◌∷◌, ◌++◌, length, map, Option, Some, None, refl, subst, ap, sym}
use Rattle.std.proofs.Common.{◌∙◌, arith, append_assoc, length-append, append-nil}
use Rattle.std.specs.Option.{option_map, option_or}
use Rattle.route_base.specs.declared.faults.Cause.{Cause}
use Rattle.route_base.proofs.Logic.{option_or-none}
use Rattle.dimacs_reader.specs.declared.builder.Sizes.{Sizes}
use Rattle.dimacs_reader.specs.declared.graph.GraphArc.{GraphArc}
use Rattle.dimacs_reader.specs.declared.lines.Line.{Line}
use Rattle.dimacs_reader.specs.declared.lines.Line.TheVariants.{Ignored, Problem, Arc, Bad}
use Rattle.dimacs_reader.specs.Inside.Builder.{stated_after}
use Rattle.dimacs_reader.specs.Inside.PlainLines.{IsFirstLine}
use Rattle.dimacs_reader.specs.Faults.{cause_in, end_cause_in, cause_of, cause_of_problem, cause_at_end, fault_from, first_fault, fault_of}
use Rattle.dimacs_reader.specs.Lines.{line_of, lines_of, lines_in}
use Rattle.dimacs_reader.specs.Stated.{Stated, stated_in, sizes_in, arcs_in, arc_with}
use Rattle.dimacs_reader.specs.GraphModel.{graph_of, graph_in}

-- the lines before, all without a fault, and what is left of the file
pub record HasReadLines (bytes rest : List ℕ) (number : ℕ) (stated : Stated) : Type 0 where
  pub before : List Line
  pub number_is : number ≡ length before + 1
  pub stated_is : stated ≡ stated_in before
  pub lines : lines_in bytes ≡ before ++ lines_in rest
  pub fault : fault_of bytes ≡ fault_from before (lines_in rest)
  pub few : length before + length rest ≤ length bytes

sizes_in-append : (xs ys : List Line) → sizes_in (xs ++ ys) ≡ option_or (sizes_in xs) (sizes_in ys)
sizes_in-append [] ys = refl
sizes_in-append (Ignored ∷ xs) ys = sizes_in-append xs ys
sizes_in-append (Problem n m ∷ xs) ys = refl
sizes_in-append (Arc u v w ∷ xs) ys = sizes_in-append xs ys
sizes_in-append (Bad ∷ xs) ys = sizes_in-append xs ys

arcs_in-append : (xs ys : List Line) → arcs_in (xs ++ ys) ≡ arcs_in xs ++ arcs_in ys
arcs_in-append [] ys = refl
arcs_in-append (Ignored ∷ xs) ys = arcs_in-append xs ys
arcs_in-append (Problem n m ∷ xs) ys = arcs_in-append xs ys
arcs_in-append (Arc u v w ∷ xs) ys = ap (λ r. arc_with u v w ∷ r) (arcs_in-append xs ys)
arcs_in-append (Bad ∷ xs) ys = arcs_in-append xs ys

abbrev with_parts : Option Sizes → List GraphArc → Stated
with_parts sizes arcs = record { sizes = sizes; arcs = arcs }

no_sizes : (o : Option Sizes) (n m : ℕ) → cause_of_problem o n m ≡ None → o ≡ None
no_sizes None n m e = refl
no_sizes (Some x) n m e = absurd (cc)

-- one line more, which has no cause
stated_more : (before : List Line) (line : Line) → cause_in (stated_in before) line ≡ None
    → stated_after (stated_in before) line ≡ stated_in (before ++ line ∷ [])
unfolding stated_in
stated_more before Ignored e =
    rw (sizes_in-append, arcs_in-append, option_or-none, append-nil) refl
stated_more before (Problem n m) e =
    let first : sizes_in before ≡ None = no_sizes (sizes_in before) n m e in
    let sizes : sizes_in (before ++ Problem n m ∷ []) ≡ Some (record { nodes = n; arcs = m }) = sizes_in-append before (Problem n m ∷ [])
    ∙ ap (λ o. option_or o (Some (record { nodes = n; arcs = m }))) first in
    rw (sizes, arcs_in-append, append-nil) refl
stated_more before (Arc u v w) e =
    rw (sizes_in-append, arcs_in-append, option_or-none) refl
stated_more before Bad e = absurd (cc)

-- at the start
pub read_none : (bytes : List ℕ) → HasReadLines bytes bytes 1 (record { sizes = None; arcs = [] })
unfolding stated_in fault_of first_fault
read_none bytes = record { before = []; number_is = refl; stated_is = refl; lines = refl; fault = refl; few = omega arith }

pub lines_next : (rest text more : List ℕ) (line : Line) → lines_of rest ≡ text ∷ lines_of more → line ≡ line_of text
    → lines_in rest ≡ line ∷ lines_in more
unfolding lines_in
lines_next rest text more line cuts says = ap (map line_of) cuts ∙ ap (λ l. l ∷ lines_in more) (sym says)

fault_next : (before : List Line) (line : Line) (more : List Line) → cause_in (stated_in before) line ≡ None
    → fault_from before (line ∷ more) ≡ fault_from (before ++ line ∷ []) more
unfolding cause_of
fault_next before line more e = ap (λ o. option_or (option_map (λ cause. (length before + 1, cause)) o) (fault_from (before ++ line ∷ []) more)) e

fault_here : (before : List Line) (line : Line) (more : List Line) (cause : Cause) → cause_in (stated_in before) line ≡ Some cause
    → fault_from before (line ∷ more) ≡ Some (length before + 1, cause)
unfolding cause_of
fault_here before line more cause e = ap (λ o. option_or (option_map (λ why. (length before + 1, why)) o) (fault_from (before ++ line ∷ []) more)) e

-- one line more, without a fault
pub read_more : (bytes rest more : List ℕ) (number : ℕ) (stated : Stated) (line : Line) → HasReadLines bytes rest number stated
    → IsFirstLine rest line more → cause_in stated line ≡ None → HasReadLines bytes more (number + 1) (stated_after stated line)
read_more bytes rest more number stated line h first none =
    let here : cause_in (stated_in h.before) line ≡ None = sym (ap (λ s. cause_in s line) h.stated_is) ∙ none in
    let next : lines_in rest ≡ line ∷ lines_in more = first.cut in
    let count : length (h.before ++ line ∷ []) ≡ length h.before + 1 = length-append h.before (line ∷ []) in
    record {
      before = h.before ++ line ∷ [];
      number_is = let e = h.number_is in omega arith;
      stated_is = ap (λ s. stated_after s line) h.stated_is ∙ stated_more h.before line here;
      lines = h.lines ∙ ap (λ ls. h.before ++ ls) next ∙ sym (append_assoc h.before (line ∷ []) (lines_in more));
      fault = h.fault ∙ ap (fault_from h.before) next ∙ fault_next h.before line (lines_in more) here;
      few = let e = h.few in let less = first.less in omega arith;
    }

-- a line with a fault
pub line_refused : (bytes rest more : List ℕ) (number : ℕ) (stated : Stated) (line : Line) (cause : Cause)
    → HasReadLines bytes rest number stated → IsFirstLine rest line more → cause_in stated line ≡ Some cause
    → fault_of bytes ≡ Some (number, cause)
line_refused bytes rest more number stated line cause h first why =
    let here : cause_in (stated_in h.before) line ≡ Some cause = sym (ap (λ s. cause_in s line) h.stated_is) ∙ why in
    h.fault
    ∙ ap (fault_from h.before) first.cut
    ∙ fault_here h.before line (lines_in more) cause here
    ∙ ap (λ n. Some (n, cause)) (sym h.number_is)

end_fault : (bytes : List ℕ) (number : ℕ) (stated : Stated) → HasReadLines bytes [] number stated
    → fault_of bytes ≡ option_map (λ cause. (number, cause)) (end_cause_in stated)
unfolding lines_in cause_at_end
end_fault bytes number stated h =
    h.fault
    ∙ ap (λ s. option_map (λ cause. (length h.before + 1, cause)) (end_cause_in s)) (sym h.stated_is)
    ∙ ap (λ n. option_map (λ cause. (n, cause)) (end_cause_in stated)) (sym h.number_is)

-- the lines can't end here
pub end_refused : (bytes rest : List ℕ) (number : ℕ) (stated : Stated) (cause : Cause) → HasReadLines bytes rest number stated → rest ≡ []
    → end_cause_in stated ≡ Some cause → fault_of bytes ≡ Some (number, cause)
end_refused bytes rest number stated cause h none why = end_fault bytes number stated
    (subst (λ (r : List ℕ). HasReadLines bytes r number stated) none h) ∙ ap (option_map (λ c. (number, c))) why

pub end_faultless : (bytes rest : List ℕ) (number : ℕ) (stated : Stated) → HasReadLines bytes rest number stated → rest ≡ []
    → end_cause_in stated ≡ None → fault_of bytes ≡ None
end_faultless bytes rest number stated h none why = end_fault bytes number stated
    (subst (λ (r : List ℕ). HasReadLines bytes r number stated) none h) ∙ ap (option_map (λ c. (number, c))) why

pub end_graph : (bytes rest : List ℕ) (number : ℕ) (stated : Stated) → HasReadLines bytes rest number stated → rest ≡ [] → graph_in stated ≡ graph_of bytes
unfolding graph_of lines_in
end_graph bytes rest number stated h none =
    let all : lines_in bytes ≡ h.before = h.lines ∙ ap (λ r. h.before ++ lines_in r) none ∙ append-nil h.before in
    ap graph_in (h.stated_is ∙ ap stated_in (sym all))
