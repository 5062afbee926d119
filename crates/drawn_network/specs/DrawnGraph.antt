-- The graph of a drawn network (source: own).
use Rattle.std.specs.Prelude.{ℕ, ◌*◌, map}
use Rattle.dimacs_reader.specs.GraphModel.{GraphModel, graph_with}
use Rattle.dimacs_reader.specs.Stated.{arc_with}
use Rattle.dimacs_reader.specs.declared.graph.GraphArc.{GraphArc}
use Rattle.net_generator.specs.Layout.{roads_drawn}
use Rattle.net_generator.specs.declared.layout.Road.{Road}

-- a road as an arc of the graph
abbrev pub arc_of_road : Road → GraphArc
arc_of_road road = arc_with road.tail road.head road.minutes

-- the nodes of the rows and columns, and the roads in their order
abbrev pub drawn_graph : ℕ → ℕ → ℕ → GraphModel
drawn_graph number rows columns = graph_with (rows * columns) (map arc_of_road (roads_drawn number rows columns).values)
