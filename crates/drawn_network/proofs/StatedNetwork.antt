-- The files of a drawn network state it.
use Rattle.std.proofs.Common.{◌≡◌, ℕ, zero, suc, ◌+◌, ◌*◌, false, Option, None, List, [], ◌∷◌, map, refl, ◌∙◌, ap, arith}
use Rattle.std.proofs.Math.ListN.{replicate}
use Rattle.std.specs.Prelude.{filter, unwrap_or}
use Rattle.route_base.specs.Forms.{is_name}
use Rattle.route_base.specs.declared.limits.TheConstants.{LAST_DAY}
use Rattle.table_reader.specs.ByNumber.{numbered_in}
use Rattle.table_reader.specs.NameIndex.{names_of, place_among}
use Rattle.table_reader.specs.Records.{Record, rows_of}
use Rattle.table_reader.proofs.NumberedRows.{given_at_first}
use Rattle.vehicle_classes.specs.Vehicles.{vehicles_in}
use Rattle.area_tables.specs.Areas.{areas_in, areas_or_default}
use Rattle.network_tables.specs.Closures.{closures_in, runs_by_arc}
use Rattle.area_tables.specs.Holidays.{calendar_days, days_listed, holidays_in}
use Rattle.network_tables.specs.NetworkFiles.{arc_count_of, area_in, areas_of, closed_runs_of, holidays_of, network_in_files}
use Rattle.network_tables.specs.NetworkFiles.{parks_of, ratings_of, roads_of, vehicles_of, zones_of}
use Rattle.network_tables.specs.NetworkModel.{Area}
use Rattle.network_tables.specs.Parking.{parked_in}
use Rattle.network_tables.specs.Ratings.{Rating}
use Rattle.area_tables.specs.Roads.{area_by_arc}
use Rattle.network_tables.specs.Rules.{rules_in, passed_over_in}
use Rattle.network_tables.specs.Tolls.{tolls_in}
use Rattle.area_tables.specs.Zones.{zone_entries_in, zone_named}
use Rattle.net_generator.specs.Sizes.{IsDrawable}
use Rattle.drawn_network.specs.DrawnFiles.{drawn_files}
use Rattle.drawn_network.specs.DrawnNetwork.{only_area, network_drawn}
use Rattle.drawn_network.specs.DrawnRows.{drawn_parks, drawn_runs}
use Rattle.drawn_network.proofs.DrawnRoads.{roads_few}
use Rattle.drawn_network.proofs.DrawnTables.{arcs_drawn, closures_file-read, parking_file-read}
use Rattle.drawn_network.proofs.EmptyTables.{empty-rows}
use Rattle.drawn_network.proofs.FaultlessFiles.{arcs_are, nodes_are}
use Rattle.drawn_network.proofs.RatingsTable.{ratings_file-ratings}
use Rattle.drawn_network.proofs.ReadGraph.{drawn_read}

-- no day is listed by no row
none-listed : (days : List ℕ) → filter {X = ℕ} (λ day. false) days ≡ []
none-listed [] = refl
none-listed (day ∷ days) = none-listed days

no_days : days_listed [] ≡ []
no_days = none-listed (calendar_days (LAST_DAY + 1))

-- the areas of tables without rows
areas_from : List Record → List Area
areas_from rows = map (area_in (zone_named (zone_entries_in rows)) (holidays_in rows)) (areas_or_default (areas_in rows))

no_areas : areas_from [] ≡ only_area ∷ []
unfolding areas_from
no_areas = ap (λ (days : List ℕ). record only_area { holidays = record { public = days; school = days } } ∷ []) no_days

areas_stated : (number rows columns : ℕ)
    → map (area_in (zones_of (drawn_files number rows columns)) (holidays_of (drawn_files number rows columns))) (areas_of (drawn_files number rows columns))
    ≡ only_area ∷ []
unfolding areas_from
areas_stated number rows columns = ap areas_from empty-rows ∙ no_areas

-- all arcs lie in the first area
first_area : (n : ℕ) → map (λ (o : Option ℕ). unwrap_or o 0) (replicate n None) ≡ replicate n 0
first_area zero = refl
first_area (suc n) = ap (λ (places : List ℕ). 0 ∷ places) (first_area n)

roads_stated : (number rows columns : ℕ) → IsDrawable number rows columns
    → roads_of (drawn_files number rows columns) ≡ replicate (arcs_drawn number rows columns) 0
roads_stated number rows columns d =
    let names = names_of (areas_of (drawn_files number rows columns)) in
    ap (λ n. area_by_arc n names (numbered_in is_name (rows_of []))) (arcs_are number rows columns d)
    ∙ ap (λ (none : List Record). area_by_arc (arcs_drawn number rows columns) names (numbered_in is_name none)) empty-rows
    ∙ ap (map (λ (o : Option ℕ). unwrap_or o 0)) (given_at_first (place_among names) (arcs_drawn number rows columns))
    ∙ first_area (arcs_drawn number rows columns)

vehicles_stated : (number rows columns : ℕ) → vehicles_of (drawn_files number rows columns) ≡ vehicles_in []
vehicles_stated number rows columns = ap vehicles_in empty-rows

closures_stated : (number rows columns : ℕ) → IsDrawable number rows columns
    → closed_runs_of (drawn_files number rows columns) ≡ drawn_runs number rows columns
closures_stated number rows columns d =
    ap (λ n. runs_by_arc n (closures_in (rows_of (drawn_files number rows columns).closures))) (arcs_are number rows columns d)
    ∙ ap (runs_by_arc (arcs_drawn number rows columns))
    (closures_file-read number rows columns (omega (arith, roads_few number rows columns, d.nodes)))

parks_stated : (number rows columns : ℕ) → IsDrawable number rows columns → parks_of (drawn_files number rows columns) ≡ drawn_parks number rows columns
parks_stated number rows columns d =
    let files = drawn_files number rows columns in
    let names = names_of (areas_of files) in
    ap (λ n. parked_in n (ratings_of files) names (rows_of files.parking)) (nodes_are number rows columns d)
    ∙ ap (λ (ratings : List Rating). parked_in (rows * columns) ratings names (rows_of files.parking)) ratings_file-ratings
    ∙ parking_file-read number rows columns names (omega (arith, d.nodes))

pub network_stated : (number rows columns : ℕ) → IsDrawable number rows columns
    → network_in_files (drawn_files number rows columns) ≡ network_drawn number rows columns
unfolding network_in_files
network_stated number rows columns d =
    let files = drawn_files number rows columns in
    let no_rules = ap (λ (none : List Record). rules_in (arc_count_of files) (names_of (areas_of files)) none) empty-rows in
    let none_passed = ap (λ (none : List Record). passed_over_in (arc_count_of files) (names_of (areas_of files)) none) empty-rows in
    let no_tolls = ap tolls_in empty-rows in
    λ i. record {
      graph = (drawn_read number rows columns d).graph i;
      areas = areas_stated number rows columns i;
      roads = roads_stated number rows columns d i;
      vehicles = vehicles_stated number rows columns i;
      rules = no_rules i;
      passed_over = none_passed i;
      closures = closures_stated number rows columns d i;
      parks = parks_stated number rows columns d i;
      tolls = no_tolls i;
    }
