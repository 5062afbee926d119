-- The network that files state, and the first fault of their contents (source: own).
use Rattle.std.specs.Prelude.{ℕ, Option, None, List, [], ◌∷◌, length, map, unwrap_or}
use Rattle.std.specs.Option.{option_map, option_or}
use Rattle.route_base.specs.declared.faults.BadInput.{BadInput}
use Rattle.route_base.specs.declared.faults.Cause.{Cause}
use Rattle.route_base.specs.declared.faults.FileKind.{FileKind}
use Rattle.route_base.specs.declared.faults.FileKind.TheVariants as file
use Rattle.route_base.specs.declared.types.Run.{Run}
use Rattle.dimacs_reader.specs.Faults.{fault_of}
use Rattle.dimacs_reader.specs.GraphModel.{graph_of}
use Rattle.zone_rules.specs.declared.rows.ZoneRow.{ZoneRow}
use Rattle.route_base.specs.Forms.{is_name}
use Rattle.table_reader.specs.ByNumber.{numbered_in}
use Rattle.table_reader.specs.NameIndex.{names_of}
use Rattle.table_reader.specs.Records.{records_of, rows_of}
use Rattle.table_reader.specs.Schema.{Schema, first_table_fault}
use Rattle.area_tables.specs.Areas.{AreaEntry, areas_schema, areas_in, areas_or_default}
use Rattle.network_tables.specs.Closures.{closures_schema, closures_in, runs_by_arc}
use Rattle.area_tables.specs.Holidays.{HolidayEntry, holidays_schema, holidays_in, holidays_named}
use Rattle.network_tables.specs.NetworkModel.{Area, NetworkModel}
use Rattle.network_tables.specs.Parking.{Parked, parked_in, parking_schema}
use Rattle.network_tables.specs.Ratings.{Rating, ratings_schema, ratings_in}
use Rattle.vehicle_classes.specs.Vehicles.{VehicleEntry, vehicles_in, vehicles_schema}
use Rattle.network_tables.specs.Rules.{rules_schema}
use Rattle.network_tables.specs.RuleLists.{RuleList, rules_stated}
use Rattle.area_tables.specs.Roads.{roads_schema, area_by_arc}
use Rattle.area_tables.specs.Zones.{zones_schema, zone_entries_in, zone_named}
use Rattle.network_tables.specs.Tolls.{Toll, tolls_in, tolls_schema}
use Rattle.network_tables.specs.declared.files.Files.{Files}

-- a fault as that of a file
abbrev pub fault_in : FileKind → Option (ℕ × Cause) → Option BadInput
fault_in file o = option_map (λ fault. record { file = file; row = fault.0; cause = fault.1 }) o

-- the first fault of a table's file
abbrev pub table_fault : FileKind → Schema → List ℕ → Option BadInput
table_fault file schema bytes = fault_in file (first_table_fault schema (records_of bytes))

-- the number of arcs, and of nodes, of the graph
abbrev pub arc_count_of : Files → ℕ
arc_count_of files = length (graph_of files.graph).arcs

abbrev pub node_count_of : Files → ℕ
node_count_of files = (graph_of files.graph).nodes

-- the rows of the zone of a name
abbrev pub zones_of : Files → List ℕ → Option (List ZoneRow)
zones_of files = zone_named (zone_entries_in (rows_of files.zones))

-- the areas by name, each with the name of its zone
abbrev pub areas_of : Files → List AreaEntry
areas_of files = areas_or_default (areas_in (rows_of files.areas))

-- for each arc the place of its area
abbrev pub roads_of : Files → List ℕ
roads_of files = area_by_arc (arc_count_of files) (names_of (areas_of files)) (numbered_in is_name (rows_of files.roads))

-- the vehicles by name, `any` in front
abbrev pub vehicles_of : Files → List VehicleEntry
vehicles_of files = vehicles_in (rows_of files.vehicles)

-- the rules, and the number of rows that are passed over
abbrev pub rules_of : Files → RuleList
rules_of files = rules_stated (arc_count_of files) (names_of (areas_of files)) (rows_of files.rules)

-- the closed minutes of each arc
abbrev pub closed_runs_of : Files → List (List Run)
closed_runs_of files = runs_by_arc (arc_count_of files) (closures_in (rows_of files.closures))

-- the weights by the names of their ratings
abbrev pub ratings_of : Files → List Rating
ratings_of files = ratings_in (rows_of files.ratings)

-- the nodes where one may wait
abbrev pub parks_of : Files → List Parked
parks_of files = parked_in (node_count_of files) (ratings_of files) (names_of (areas_of files)) (rows_of files.parking)

-- the rows of holidays
abbrev pub holidays_of : Files → List HolidayEntry
holidays_of files = holidays_in (rows_of files.holidays)

-- the tolls of arcs
abbrev pub tolls_of : Files → List Toll
tolls_of files = tolls_in (rows_of files.tolls)

-- the zone of an area among these zones
abbrev pub zone_for : (List ℕ → Option (List ZoneRow)) → AreaEntry → List ZoneRow
zone_for zones a = unwrap_or (zones a.1) []

-- an area in one of these zones, with those of these holidays that name it
abbrev pub area_in : (List ℕ → Option (List ZoneRow)) → List HolidayEntry → AreaEntry → Area
area_in zones entries a = record { zone = zone_for zones a; holidays = holidays_named entries a.0 }

-- the fault of each file, by the files before it
abbrev pub graph_fault : Files → Option BadInput
graph_fault files = fault_in file.Graph (fault_of files.graph)

abbrev pub zones_fault : Files → Option BadInput
zones_fault files = table_fault file.Zones zones_schema files.zones

abbrev pub areas_fault : Files → Option BadInput
areas_fault files = table_fault file.Areas (areas_schema (zones_of files)) files.areas

abbrev pub roads_fault : Files → Option BadInput
roads_fault files = table_fault file.Roads (roads_schema (arc_count_of files) (names_of (areas_of files))) files.roads

abbrev pub vehicles_fault : Files → Option BadInput
vehicles_fault files = table_fault file.Vehicles vehicles_schema files.vehicles

abbrev pub rules_fault : Files → Option BadInput
rules_fault files = table_fault file.Rules (rules_schema (arc_count_of files) (names_of (areas_of files))) files.rules

abbrev pub closures_fault : Files → Option BadInput
closures_fault files = table_fault file.Closures (closures_schema (arc_count_of files)) files.closures

abbrev pub ratings_fault : Files → Option BadInput
ratings_fault files = table_fault file.Ratings ratings_schema files.ratings

abbrev pub parking_fault : Files → Option BadInput
parking_fault files = table_fault file.Parking (parking_schema (node_count_of files) (ratings_of files) (names_of (areas_of files))) files.parking

abbrev pub holidays_fault : Files → Option BadInput
holidays_fault files = table_fault file.Holidays (holidays_schema (names_of (areas_of files))) files.holidays

abbrev pub tolls_fault : Files → Option BadInput
tolls_fault files = table_fault file.Tolls (tolls_schema (arc_count_of files)) files.tolls

-- the first fault of a list, if there is one
abbrev pub first_some : {X : Type 0} → List (Option X) → Option X
first_some [] = None
first_some (o ∷ more) = option_or o (first_some more)

-- the first fault of the files' contents, in the order in which they are read
unfoldable pub contents_fault : Files → Option BadInput
contents_fault files = first_some (graph_fault files ∷ zones_fault files ∷ areas_fault files ∷ roads_fault files
    ∷ vehicles_fault files ∷ rules_fault files ∷ closures_fault files ∷ ratings_fault files ∷ parking_fault files ∷ holidays_fault files
    ∷ tolls_fault files ∷ [])

-- the network that the files state
unfoldable pub network_in_files : Files → NetworkModel
network_in_files files = record {
  graph = graph_of files.graph;
  areas = map (area_in (zones_of files) (holidays_of files)) (areas_of files);
  roads = roads_of files;
  vehicles = vehicles_of files;
  rules = (rules_of files).rules;
  passed_over = (rules_of files).passed_over;
  closures = closed_runs_of files;
  parks = parks_of files;
  tolls = tolls_of files;
}
