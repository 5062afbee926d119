-- The files of a drawn network have no fault.
use Rattle.std.proofs.Common.{◌≡◌, ℕ, ◌*◌, None, length, refl, ap, ◌∙◌, arith}
use Rattle.std.proofs.lemmas.List.{length-map}
use Rattle.route_base.specs.declared.faults.FileKind.TheVariants as file
use Rattle.table_reader.specs.NameIndex.{names_of}
use Rattle.table_reader.specs.Schema.{first_table_fault}
use Rattle.network_tables.specs.Closures.{closures_schema}
use Rattle.network_tables.specs.NetworkFiles.{arc_count_of, areas_of, node_count_of, contents_fault, fault_in, ratings_of, table_fault}
use Rattle.network_tables.specs.NetworkFiles.{graph_fault, closures_fault}
use Rattle.network_tables.specs.NetworkFiles.{ratings_fault, parking_fault}
use Rattle.network_tables.specs.Parking.{parking_schema}
use Rattle.net_generator.specs.Generated.{closures_file, parking_file}
use Rattle.net_generator.specs.Layout.{roads_drawn}
use Rattle.net_generator.specs.Sizes.{IsDrawable}
use Rattle.drawn_network.specs.DrawnFiles.{drawn_files}
use Rattle.drawn_network.specs.DrawnGraph.{arc_of_road}
use Rattle.drawn_network.proofs.DrawnRoads.{roads_few}
use Rattle.drawn_network.proofs.DrawnTables.{arcs_drawn, closures_file-faultless, parking_file-faultless}
use Rattle.drawn_network.proofs.EmptyTables.{empty-records}
use Rattle.drawn_network.proofs.RatingsTable.{ratings_file-faultless}
use Rattle.drawn_network.proofs.ReadGraph.{drawn_read}

-- the graph has as many arcs as roads are drawn
pub arcs_are : (number rows columns : ℕ) → IsDrawable number rows columns → arc_count_of (drawn_files number rows columns) ≡ arcs_drawn number rows columns
arcs_are number rows columns d =
    ap (λ graph. length graph.arcs) (drawn_read number rows columns d).graph
    ∙ length-map (roads_drawn number rows columns).values arc_of_road

pub nodes_are : (number rows columns : ℕ) → IsDrawable number rows columns → node_count_of (drawn_files number rows columns) ≡ rows * columns
nodes_are number rows columns d = ap (λ graph. graph.nodes) (drawn_read number rows columns d).graph

closures_good : (number rows columns : ℕ) → IsDrawable number rows columns → closures_fault (drawn_files number rows columns) ≡ None
closures_good number rows columns d =
    ap (λ arcs. table_fault file.Closures (closures_schema arcs) (closures_file number rows columns)) (arcs_are number rows columns d)
    ∙ ap (fault_in file.Closures) (closures_file-faultless number rows columns (omega (arith, roads_few number rows columns, d.nodes)))

parking_good : (number rows columns : ℕ) → IsDrawable number rows columns → parking_fault (drawn_files number rows columns) ≡ None
parking_good number rows columns d =
    let ratings = ratings_of (drawn_files number rows columns) in
    let names = names_of (areas_of (drawn_files number rows columns)) in
    ap (λ nodes. table_fault file.Parking (parking_schema nodes ratings names) (parking_file number rows columns)) (nodes_are number rows columns d)
    ∙ ap (fault_in file.Parking) (parking_file-faultless number rows columns names (omega (arith, d.nodes)))

-- no file has a fault
pub files_faultless : (number rows columns : ℕ) → IsDrawable number rows columns → contents_fault (drawn_files number rows columns) ≡ None
unfolding contents_fault first_table_fault
files_faultless number rows columns d =
    let files = drawn_files number rows columns in
    let graph : graph_fault files ≡ None = ap (fault_in file.Graph) (drawn_read number rows columns d).faultless in
    let closures = closures_good number rows columns d in
    let ratings : ratings_fault files ≡ None = ap (fault_in file.Ratings) ratings_file-faultless in
    let parking = parking_good number rows columns d in
    rw (graph, closures, ratings, parking, empty-records) refl
