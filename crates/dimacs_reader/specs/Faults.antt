-- Faults of a graph file: the first one, with its line and cause (source: DIMACS; the causes are own).
use Rattle.std.specs.Prelude.{◌≡◌, ℕ, ◌+◌, ◌&&◌, nat_le, nat_lt, Option, Some, None, List, [], ◌∷◌, ◌++◌, length, if◌then◌else◌}
use Rattle.std.specs.Option.{option_map, option_or}
use Rattle.route_base.specs.Causes.{IsOfContents}
use Rattle.route_base.specs.Forms.{is_from_to}
use Rattle.route_base.specs.declared.limits.TheConstants.{LONGEST_DRIVE, MOST_ARCS, MOST_NODES}
use Rattle.route_base.specs.declared.faults.Cause.{Cause}
use Rattle.route_base.specs.declared.faults.Cause.TheVariants.{NoProblemLine, SecondProblemLine, BadForm, NodeRange, WeightRange, ArcCount, SizeLimit}
use Rattle.dimacs_reader.specs.declared.builder.Sizes.{Sizes}
use Rattle.dimacs_reader.specs.declared.faults.GraphFault.{GraphFault}
use Rattle.dimacs_reader.specs.declared.faults.GraphFault.TheVariants.{BadLine, OutOfMemory}
use Rattle.dimacs_reader.specs.declared.lines.Line.{Line}
use Rattle.dimacs_reader.specs.declared.lines.Line.TheVariants.{Ignored, Problem, Arc, Bad}
use Rattle.dimacs_reader.specs.Lines.{lines_in}
use Rattle.dimacs_reader.specs.Stated.{Stated, stated_in}

-- the cause of a problem line: there may be one, of 1 to 500,000 nodes and at most 1,000,000 arcs
abbrev pub cause_of_problem : Option Sizes → ℕ → ℕ → Option Cause
cause_of_problem (Some sizes) n m = Some SecondProblemLine
cause_of_problem None n m = if is_from_to 1 MOST_NODES n && nat_le m MOST_ARCS then None else Some SizeLimit

-- the cause of an arc line after `count` arcs: it joins nodes, takes 1 to 10,080 minutes, and is announced
abbrev pub cause_of_arc : Option Sizes → ℕ → ℕ → ℕ → ℕ → Option Cause
cause_of_arc None count u v w = Some NoProblemLine
cause_of_arc (Some sizes) count u v w =
    if is_from_to 1 sizes.nodes u && is_from_to 1 sizes.nodes v
    then (if is_from_to 1 LONGEST_DRIVE w then (if nat_lt count sizes.arcs then None else Some ArcCount) else Some WeightRange)
    else Some NodeRange

-- the cause for which a line can't follow what is stated, if there is one
abbrev pub cause_in : Stated → Line → Option Cause
cause_in stated Ignored = None
cause_in stated (Problem n m) = cause_of_problem stated.sizes n m
cause_in stated (Arc u v w) = cause_of_arc stated.sizes (length stated.arcs) u v w
cause_in stated Bad = Some BadForm

-- the cause for which a file can't end after `count` arcs, if there is one
abbrev pub end_cause_from : Option Sizes → ℕ → Option Cause
end_cause_from None count = Some NoProblemLine
end_cause_from (Some sizes) count = if nat_lt count sizes.arcs then Some ArcCount else None

-- the cause for which the file can't end where this is stated, if there is one
abbrev pub end_cause_in : Stated → Option Cause
end_cause_in stated = end_cause_from stated.sizes (length stated.arcs)

-- the cause for which a line can't follow these lines, if there is one
unfoldable pub cause_of : List Line → Line → Option Cause
cause_of before line = cause_in (stated_in before) line

-- the cause for which the file can't end after these lines, if there is one
unfoldable pub cause_at_end : List Line → Option Cause
cause_at_end lines = end_cause_in (stated_in lines)

-- the first fault from the line on that follows the lines before
abbrev pub fault_from : List Line → List Line → Option (ℕ × Cause)
fault_from before [] = option_map (λ cause. (length before + 1, cause)) (cause_at_end before)
fault_from before (line ∷ more) =
    option_or (option_map (λ cause. (length before + 1, cause)) (cause_of before line)) (fault_from (before ++ line ∷ []) more)

-- the least line, from 1, that has a cause, with its cause; the end counts as the line after the last
unfoldable pub first_fault : List Line → Option (ℕ × Cause)
first_fault lines = fault_from [] lines

-- the first fault of a file
unfoldable pub fault_of : List ℕ → Option (ℕ × Cause)
fault_of bytes = first_fault (lines_in bytes)

-- the refusal names the first fault by its line and cause, unless memory ran out
abbrev pub IsRefusal : Option (ℕ × Cause) → GraphFault → Type 0
IsRefusal fault (BadLine line cause) = fault ≡ Some (line, cause)
IsRefusal fault OutOfMemory = Unit {0}

-- the cause is one of contents: a file that was read is neither missing nor too long
abbrev pub HasCauseOfContents : GraphFault → Type 0
HasCauseOfContents (BadLine line cause) = IsOfContents cause
HasCauseOfContents OutOfMemory = Unit {0}
