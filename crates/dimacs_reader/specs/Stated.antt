-- The statement of several lines together (source: DIMACS).
use Rattle.std.specs.Prelude.{ℕ, Option, Some, None, List, [], ◌∷◌}
use Rattle.dimacs_reader.specs.declared.builder.Sizes.{Sizes}
use Rattle.dimacs_reader.specs.declared.graph.GraphArc.{GraphArc}
use Rattle.dimacs_reader.specs.declared.lines.Line.{Line}
use Rattle.dimacs_reader.specs.declared.lines.Line.TheVariants.{Ignored, Problem, Arc, Bad}

-- the sizes of a problem line, if there is one, and the arcs in their order
pub record Stated : Type 0 where
  pub sizes : Option Sizes
  pub arcs : List GraphArc

-- the sizes of the first problem line
abbrev pub sizes_in : List Line → Option Sizes
sizes_in [] = None
sizes_in (Problem n m ∷ more) = Some (record { nodes = n; arcs = m })
sizes_in (Ignored ∷ more) = sizes_in more
sizes_in (Arc u v w ∷ more) = sizes_in more
sizes_in (Bad ∷ more) = sizes_in more

-- the arc from u to v of w minutes
abbrev pub arc_with : ℕ → ℕ → ℕ → GraphArc
arc_with u v w = record { tail = record { 0 = u }; head = record { 0 = v }; minutes = w }

-- the arcs of the arc lines
abbrev pub arcs_in : List Line → List GraphArc
arcs_in [] = []
arcs_in (Arc u v w ∷ more) = arc_with u v w ∷ arcs_in more
arcs_in (Ignored ∷ more) = arcs_in more
arcs_in (Problem n m ∷ more) = arcs_in more
arcs_in (Bad ∷ more) = arcs_in more

-- the statement of these lines
unfoldable pub stated_in : List Line → Stated
stated_in lines = record { sizes = sizes_in lines; arcs = arcs_in lines }
