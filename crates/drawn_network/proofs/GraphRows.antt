-- A worked network: what the definitions say of it, by computing.
use Rattle.std.proofs.Common.{◌≡◌, [], ◌∷◌, refl}
use Rattle.dimacs_reader.specs.Stated.{arc_with}
use Rattle.drawn_network.specs.DrawnGraph.{drawn_graph}

two_nodes : drawn_graph 7 1 2 ≡ record { nodes = 2; arcs = arc_with 1 2 36 ∷ arc_with 2 1 36 ∷ [] }
two_nodes = refl
