use Rattle.std.proofs.Common.{◌≡◌, List, ℕ, subst}
use Rattle.route_base.specs.declared.faults.FileKind.TheVariants as file
use Rattle.route_base.specs.Forms.{is_name}
use Rattle.table_reader.specs.ByNumber.{numbered_in}
use Rattle.table_reader.specs.NameIndex.{names_of}
use Rattle.table_reader.specs.Records.{rows_of}
use Rattle.area_tables.specs.Roads.{roads_schema, area_by_arc}
use Rattle.network_tables.specs.NetworkFiles.{arc_count_of, table_fault}
use Rattle.network_tables.specs.Refusals.{Reads}
use Rattle.network_tables.proofs.FileFaults.{reads_file}
use Rattle.network_tables.proofs.area_files.read_road_file.Goals as goal

pub returns : goal.returns
returns c =
    let files = c.args.files.now in
    subst (λ (names : List (List ℕ)). Reads c.in_file.result (table_fault file.Roads (roads_schema (arc_count_of files) names) files.roads)
    (λ roads. roads.items ≡ area_by_arc (arc_count_of files) names (numbered_in is_name (rows_of files.roads))))
    c.requires.areas
    (subst (λ (arcs : ℕ). Reads c.in_file.result (table_fault file.Roads (roads_schema arcs (names_of c.args.areas.now)) files.roads)
    (λ roads. roads.items ≡ area_by_arc arcs (names_of c.args.areas.now) (numbered_in is_name (rows_of files.roads))))
    c.requires.arcs
    (subst (λ (bytes : List ℕ). Reads c.in_file.result (table_fault file.Roads (roads_schema c.args.arcs (names_of c.args.areas.now)) bytes)
    (λ roads. roads.items ≡ area_by_arc c.args.arcs (names_of c.args.areas.now) (numbered_in is_name (rows_of bytes))))
    c.as_slice.ensures
    (reads_file file.Roads c.read_roads.result c.in_file.result _ _ c.in_file.ensures c.read_roads.ensures)))
