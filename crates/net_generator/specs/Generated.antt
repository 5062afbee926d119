-- The files of a drawn network (source: DIMACS 9 for the graph, RFC 4180 for the tables).
use Rattle.std.specs.Prelude.{ℕ, ◌*◌, List, ◌∷◌, ◌++◌, length, codes, decimal, flat_map}
use Rattle.net_generator.specs.Draws.{Drawn}
use Rattle.net_generator.specs.Layout.{roads_drawn, closures_drawn, parking_drawn}
use Rattle.net_generator.specs.declared.layout.Road.{Road}
use Rattle.net_generator.specs.declared.layout.Closure.{Closure}
use Rattle.net_generator.specs.declared.layout.Parking.{Parking}

-- the line of an arc
abbrev pub road_text : Road → List ℕ
road_text road = codes "a " ++ decimal road.tail ++ codes " " ++ decimal road.head ++ codes " " ++ decimal road.minutes ++ codes "\n"

-- rows and columns at the end of a line
abbrev pub size_text : ℕ → ℕ → List ℕ
size_text rows columns = codes " " ++ decimal rows ++ codes " " ++ decimal columns ++ codes "\n"

-- a comment with the numbers that were asked for
abbrev pub comment_text : ℕ → ℕ → ℕ → List ℕ
comment_text number rows columns = codes "c lorry_plan " ++ decimal number ++ size_text rows columns

-- the comment, the numbers of nodes and arcs, and the arcs
abbrev pub graph_text : ℕ → ℕ → ℕ → List Road → List ℕ
graph_text number rows columns roads =
    comment_text number rows columns ++ codes "p sp " ++ decimal (rows * columns) ++ codes " " ++ decimal (length roads) ++ codes "\n"
    ++ flat_map road_text roads

-- the row of a closure, in Unix minutes
abbrev pub closure_text : Closure → List ℕ
closure_text closure = decimal closure.arc ++ codes "," ++ decimal closure.from ++ codes "," ++ decimal closure.to ++ codes "\n"

-- the row of a parking area
abbrev pub parking_text : Parking → List ℕ
parking_text parking = decimal parking.node ++ codes "," ++ parking.rating ∷ codes "\n"

-- the table of closures
abbrev pub closures_text : List Closure → List ℕ
closures_text closures = codes "arc,from,to\n" ++ flat_map closure_text closures

-- the table of parking areas
abbrev pub parkings_text : List Parking → List ℕ
parkings_text parking = codes "node,rating\n" ++ flat_map parking_text parking

-- graph.gr
abbrev pub graph_file : ℕ → ℕ → ℕ → List ℕ
graph_file number rows columns = graph_text number rows columns (roads_drawn number rows columns).values

-- the closures, drawn after the roads
abbrev pub closures_after : ℕ → ℕ → ℕ → Drawn Closure
closures_after number rows columns =
    let roads = roads_drawn number rows columns in closures_drawn (length roads.values) roads.state

-- closures.csv
abbrev pub closures_file : ℕ → ℕ → ℕ → List ℕ
closures_file number rows columns = closures_text (closures_after number rows columns).values

-- parking.csv, drawn after the closures
abbrev pub parking_file : ℕ → ℕ → ℕ → List ℕ
parking_file number rows columns =
    parkings_text (parking_drawn (rows * columns) (closures_after number rows columns).state).values

-- ratings.csv: three ratings, the same for all networks
abbrev pub ratings_file : List ℕ
ratings_file = codes "rating,weight\na,0.500\nb,1.000\nc,2.500\n"
