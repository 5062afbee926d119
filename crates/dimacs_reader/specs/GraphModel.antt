-- Graphs: the one that a file states, and the limits of each (source: DIMACS; the limits are own).
use Rattle.std.specs.Prelude.{ℕ, ◌≤◌, Option, Some, None, List, length, All}
use Rattle.route_base.specs.declared.limits.TheConstants.{LONGEST_DRIVE, MOST_ARCS, MOST_NODES}
use Rattle.dimacs_reader.specs.declared.builder.Sizes.{Sizes}
use Rattle.dimacs_reader.specs.declared.graph.GraphArc.{GraphArc}
use Rattle.dimacs_reader.specs.Lines.{lines_in}
use Rattle.dimacs_reader.specs.Stated.{Stated, stated_in}

-- nodes from 1 to nodes, and arcs by number
pub record GraphModel : Type 0 where
  pub nodes : ℕ
  pub arcs : List GraphArc

-- the graph of a number of nodes and a list of arcs
abbrev pub graph_with : ℕ → List GraphArc → GraphModel
graph_with nodes arcs = record { nodes = nodes; arcs = arcs }

-- the arc joins two of `count` nodes and takes 1 to 10,080 minutes
pub record IsGoodGraphArc (count : ℕ) (a : GraphArc) : Type 0 where
  pub tail : (1 ≤ a.tail.0) × (a.tail.0 ≤ count)
  pub head : (1 ≤ a.head.0) × (a.head.0 ≤ count)
  pub minutes : (1 ≤ a.minutes) × (a.minutes ≤ LONGEST_DRIVE)

-- the graph is within the limits
pub record IsGoodGraph (graph : GraphModel) : Type 0 where
  pub some : 1 ≤ graph.nodes
  pub nodes : graph.nodes ≤ MOST_NODES
  pub arcs : length graph.arcs ≤ MOST_ARCS
  pub each_arc : All (IsGoodGraphArc graph.nodes) graph.arcs

-- the nodes of the sizes; 0 where there are none
abbrev pub nodes_from : Option Sizes → ℕ
nodes_from None = 0
nodes_from (Some sizes) = sizes.nodes

-- the nodes of the problem line, and the arcs in their order
abbrev pub graph_in : Stated → GraphModel
graph_in stated = graph_with (nodes_from stated.sizes) stated.arcs

-- the graph that a file states
unfoldable pub graph_of : List ℕ → GraphModel
graph_of bytes = graph_in (stated_in (lines_in bytes))
