-- The graph builder: the lines so far, and how the next one adds to them (source: own; no law).
use Rattle.std.specs.Prelude.{◌≡◌, ◌≤◌, Option, Some, None, List, [], ◌∷◌, ◌++◌, length, All}
use Rattle.route_base.specs.declared.limits.TheConstants.{MOST_ARCS, MOST_NODES}
use Rattle.dimacs_reader.specs.declared.builder.Sizes.{Sizes}
use Rattle.dimacs_reader.specs.declared.graph.GraphArc.{GraphArc}
use Rattle.dimacs_reader.specs.declared.lines.Line.{Line}
use Rattle.dimacs_reader.specs.declared.lines.Line.TheVariants.{Ignored, Problem, Arc, Bad}
use Rattle.dimacs_reader.specs.Stated.{Stated, arc_with}
use Rattle.dimacs_reader.specs.GraphModel.{IsGoodGraphArc}

-- sizes and arcs within their limits
pub record IsWithin (sizes : Sizes) (list : List GraphArc) : Type 0 where
  pub some : 1 ≤ sizes.nodes
  pub nodes : sizes.nodes ≤ MOST_NODES
  pub arcs : sizes.arcs ≤ MOST_ARCS
  pub few : length list ≤ sizes.arcs
  pub each_arc : All (IsGoodGraphArc sizes.nodes) list

-- no arc comes before the problem line, and each arc is within the limits
abbrev pub IsConsistentFrom : Option Sizes → List GraphArc → Type 0
IsConsistentFrom None list = list ≡ []
IsConsistentFrom (Some sizes) list = IsWithin sizes list

-- the lines so far are consistent
abbrev pub IsConsistent : Stated → Type 0
IsConsistent stated = IsConsistentFrom stated.sizes stated.arcs

-- the statement with one more line
abbrev pub stated_after : Stated → Line → Stated
stated_after stated Ignored = stated
stated_after stated (Problem n m) = record stated { sizes = Some (record { nodes = n; arcs = m }) }
stated_after stated (Arc u v w) = record stated { arcs = stated.arcs ++ arc_with u v w ∷ [] }
stated_after stated Bad = stated
