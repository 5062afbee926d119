use Rattle.std.proofs.Common.{map, ℕ, List, length, subst, ap, sym, ◌∙◌, arith}
use Rattle.std.specs.Prelude.{◌≤◌, All, unwrap_or}
use Rattle.std.proofs.lemmas.List.{length-map}
use Rattle.std.proofs.lemmas.Result.{err_from_is_err_and}
use Rattle.route_base.specs.declared.limits.TheConstants.{HIGHEST_TOLL}
use Rattle.route_base.specs.declared.types.Run.{Run}
use Rattle.dimacs_reader.specs.GraphModel.{GraphModel}
use Rattle.opening_hours.specs.Holidays.{HolidayLists}
use Rattle.zone_rules.specs.declared.rows.ZoneRow.{ZoneRow}
use Rattle.route_base.specs.Forms.{is_name}
use Rattle.table_reader.specs.ByNumber.{numbered_in}
use Rattle.table_reader.specs.NameIndex.{names_of}
use Rattle.table_reader.specs.Records.{rows_of}
use Rattle.table_reader.proofs.Lists.{map-map}
use Rattle.area_tables.specs.Areas.{AreaEntry, areas_in}
use Rattle.area_tables.specs.Holidays.{holidays_named}
use Rattle.network_tables.specs.NetworkFiles.{arc_count_of, node_count_of, zones_of, areas_of, holidays_of, ratings_of, zone_for}
use Rattle.network_tables.specs.NetworkFiles.{network_in_files}
use Rattle.network_tables.specs.NetworkModel.{AreBelow, IsGoodParked, IsParkedWithin}
use Rattle.network_tables.specs.Parks.{parks_with, IsTimedIn}
use Rattle.network_tables.specs.NetworkParts.{zones_at, areas_with}
use Rattle.network_tables.specs.Tolls.{Toll, toll_for}
use Rattle.network_tables.proofs.AreaLists.{areas_each, size_at}
use Rattle.area_tables.proofs.AreaRows.{names_kept}
use Rattle.network_tables.proofs.AreaRows.{zones_seen, places_within}
use Rattle.network_tables.proofs.ClosureRows.{length-runs_by_arc}
use Rattle.network_tables.proofs.FirstFaults.{later, staged, refused_at, refused_so}
use Rattle.network_tables.proofs.NetLists.{same_network}
use Rattle.network_tables.proofs.ParkNodes.{parked_in-nodes}
use Rattle.network_tables.proofs.RoadRows.{length-area_by_arc, area_by_arc-within, some_areas}
use Rattle.network_tables.proofs.SmallWeights.{parked_in-good, tolls_in-small}
use Rattle.network_tables.proofs.network_files.read_network.Goals as goal

pub returns-in_err-graph : goal.returns-in_err-graph
returns-in_err-graph c =
    let p = err_from_is_err_and c.from_residual.result c.from_residual.ensures.1 in
    rw (p.1, p.2) (refused_at c.in_err-graph.field-0.0 _ _ _ _ _ (staged c.args.files.now) c.in_err-graph.ensures)

pub returns-in_err-zones : goal.returns-in_err-zones
returns-in_err-zones c =
    let p = err_from_is_err_and c.from_residual-in_err-zones.result c.from_residual-in_err-zones.ensures.1 in
    rw (p.1, p.2) (refused_at c.in_err-zones.field-0.0 _ _ _ _ _
    (staged c.args.files.now ∙ later c.in_ok-graph.ensures.faultless)
    c.in_err-zones.ensures)

pub read_access-requires-clause-areas : goal.read_access-requires-clause-areas
read_access-requires-clause-areas c =
    names_kept c.in_ok-zones.zones (areas_of c.args.files.now) c.in_ok-zones.areas c.in_ok-zones.ensures.stated.placed

pub returns-in_err-vehicles : goal.returns-in_err-vehicles
returns-in_err-vehicles c =
    let p = err_from_is_err_and c.from_residual-in_err-vehicles.result c.from_residual-in_err-vehicles.ensures.1 in
    rw (p.1, p.2) (refused_at c.in_err-vehicles.field-0.0 _ _ _ _ _
    (staged c.args.files.now ∙ later c.in_ok-graph.ensures.faultless ∙ later c.in_ok-zones.ensures.faultless)
    c.in_err-vehicles.ensures)

pub read_limits-requires-clause-areas : goal.read_limits-requires-clause-areas
read_limits-requires-clause-areas c =
    names_kept c.in_ok-zones.zones (areas_of c.args.files.now) c.in_ok-zones.areas c.in_ok-zones.ensures.stated.placed

pub read_limits-requires-clause-some : goal.read_limits-requires-clause-some
read_limits-requires-clause-some c =
    let placed = c.in_ok-zones.areas in
    let kept =
    ap (λ (ns : List (List ℕ)). length ns)
    (names_kept c.in_ok-zones.zones (areas_of c.args.files.now) placed c.in_ok-zones.ensures.stated.placed) in
    omega (arith, kept, length-map placed (λ (e : List ℕ × ℕ). e.0), some_areas (areas_in (rows_of c.args.files.now.areas)))

pub returns-in_err-closures : goal.returns-in_err-closures
returns-in_err-closures c =
    let p = err_from_is_err_and c.from_residual-in_err-closures.result c.from_residual-in_err-closures.ensures.1 in
    rw (p.1, p.2) (refused_at c.in_err-closures.field-0.0 _ _ _ _ _
    (staged c.args.files.now ∙ later c.in_ok-graph.ensures.faultless ∙ later c.in_ok-zones.ensures.faultless
    ∙ later c.in_ok-vehicles.ensures.faultless)
    c.in_err-closures.ensures.value)

pub read_calendar-requires : goal.read_calendar-requires
read_calendar-requires c =
    names_kept c.in_ok-zones.zones (areas_of c.args.files.now) c.in_ok-zones.areas c.in_ok-zones.ensures.stated.placed

pub returns-in_err-zones-2 : goal.returns-in_err-zones-2
returns-in_err-zones-2 c =
    let p = err_from_is_err_and c.from_residual-in_err-zones-2.result c.from_residual-in_err-zones-2.ensures.1 in
    rw (p.1, p.2) (refused_at c.in_err-zones-2.field-0.0 _ _ _ _ _
    (staged c.args.files.now ∙ later c.in_ok-graph.ensures.faultless ∙ later c.in_ok-zones.ensures.faultless
    ∙ later c.in_ok-vehicles.ensures.faultless ∙ later c.in_ok-closures.ensures.value.faultless)
    c.in_err-zones-2.ensures)

pub returns-in_err-tolls : goal.returns-in_err-tolls
returns-in_err-tolls c =
    let p = err_from_is_err_and c.from_residual-in_err-tolls.result c.from_residual-in_err-tolls.ensures.1 in
    rw (p.1, p.2) (refused_so c.in_err-tolls.field-0.0 _ _ _ _
    (staged c.args.files.now ∙ later c.in_ok-graph.ensures.faultless ∙ later c.in_ok-zones.ensures.faultless
    ∙ later c.in_ok-vehicles.ensures.faultless ∙ later c.in_ok-closures.ensures.value.faultless ∙ later c.in_ok-zones-2.ensures.faultless)
    c.in_err-tolls.ensures)

pub new-requires : goal.new-requires
new-requires c =
    let files = c.args.files.now in
    let zones = c.in_ok-zones.zones in
    let placed = c.in_ok-zones.areas in
    let have = c.in_ok-zones.ensures.stated.placed in
    let graph = c.in_ok-graph.ensures.stated in
    let names = names_of (areas_of files) in
    let rows = numbered_in is_name (rows_of files.roads) in
    let on_roads = c.in_ok-zones.ensures.stated.on_roads in
    let calendar = c.in_ok-zones-2.ensures.stated in
    let kept = ap (λ (ns : List (List ℕ)). length ns) (names_kept zones (areas_of files) placed have) in
    let zone_count =
    ap (λ (list : List (List ZoneRow)). length list) calendar.zoned
    ∙ length-map {B = List ZoneRow} zones (λ z. z.1) in
    let area_count =
    ap (λ (list : List ℕ). length list) calendar.placed
    ∙ length-map placed (λ (e : List ℕ × ℕ). e.1)
    ∙ sym (length-map placed (λ (e : List ℕ × ℕ). e.0))
    ∙ kept in
    let dated =
    ap (λ (lists : List HolidayLists). length lists) calendar.dated
    ∙ length-map (names_of placed) (holidays_named (holidays_of files))
    ∙ kept
    ∙ sym area_count in
    let size = size_at c.in_ok-zones-2.zones.items c.in_ok-zones-2.zone_places.items c.in_ok-zones-2.holidays.items dated in
    record {
      good = record {
        roads =
            ap (λ (list : List ℕ). length list) on_roads
            ∙ length-area_by_arc (arc_count_of files) names rows
            ∙ ap (λ (g : GraphModel). length g.arcs) (sym graph);
        placed =
            subst (λ (n : ℕ). AreBelow n c.in_ok-zones.roads.items) (sym (size ∙ area_count))
            (subst (λ (list : List ℕ). AreBelow (length names) list) (sym on_roads)
            (area_by_arc-within (arc_count_of files) names rows (some_areas (areas_in (rows_of files.areas)))));
        closures =
            ap (λ (lists : List (List Run)). length lists) c.in_ok-closures.ensures.value.stated.0
            ∙ length-runs_by_arc _ _
            ∙ ap (λ (g : GraphModel). length g.arcs) (sym graph);
        parks =
            subst (λ (n : ℕ). All (IsGoodParked n) (parks_with c.in_ok-closures.parks)) (sym (size ∙ area_count))
            (subst (All (IsGoodParked (length names))) (sym c.in_ok-closures.ensures.value.stated.1)
            (parked_in-good (node_count_of files) (rows_of files.ratings) names (some_areas (areas_in (rows_of files.areas))) (rows_of files.parking)));
        rated =
            subst (λ (n : ℕ). All (IsParkedWithin n) (parks_with c.in_ok-closures.parks)) (ap (λ (g : GraphModel). g.nodes) (sym graph))
            (subst (All (IsParkedWithin (node_count_of files))) (sym c.in_ok-closures.ensures.value.stated.1)
            (parked_in-nodes (node_count_of files) (ratings_of files) names (rows_of files.parking)));
        tolls = λ a.
            subst (λ (list : List Toll). unwrap_or (toll_for list a) 0 ≤ HIGHEST_TOLL) (sym c.in_ok-tolls.ensures.stated)
            (tolls_in-small (rows_of files.tolls) a);
      };
      zoned =
          subst (λ (list : List ℕ). AreBelow (length c.in_ok-zones-2.zones.items) list) (sym calendar.placed)
          (λ k d there. omega (arith, zone_count, places_within zones (areas_of files) placed have k d there));
      dated = dated;
      timed =
          subst (λ (n : ℕ). All (IsTimedIn n) c.in_ok-closures.parks.timetables)
          (sym (length-map placed (λ (e : List ℕ × ℕ). e.0)) ∙ kept ∙ sym (size ∙ area_count))
          c.in_ok-closures.ensures.placed;
    }

pub returns : goal.returns
unfolding network_in_files
returns c =
    let files = c.args.files.now in
    let placed = c.in_ok-zones.areas in
    let have = c.in_ok-zones.ensures.stated.placed in
    let entries = holidays_of files in
    let calendar = c.in_ok-zones-2.ensures.stated in
    let zones =
    ap (λ (ps : List ℕ). zones_at c.in_ok-zones-2.zones.items ps) calendar.placed
    ∙ ap (λ (rows : List (List ZoneRow)). zones_at rows (map (λ (e : List ℕ × ℕ). e.1) placed)) calendar.zoned
    ∙ zones_seen c.in_ok-zones.zones (areas_of files) placed (zones_of files) have c.in_ok-zones.ensures.stated.zoned in
    let dates =
    calendar.dated
    ∙ ap (λ (ns : List (List ℕ)). map (holidays_named entries) ns) (names_kept c.in_ok-zones.zones (areas_of files) placed have)
    ∙ map-map (holidays_named entries) (λ (a : AreaEntry). a.0) (areas_of files) in
    let areas =
    ap (λ (rows : List (List ZoneRow)). areas_with rows c.in_ok-zones-2.holidays.items) zones
    ∙ ap (λ (lists : List HolidayLists). areas_with (map (zone_for (zones_of files)) (areas_of files)) lists) dates
    ∙ areas_each (zone_for (zones_of files)) (λ (a : AreaEntry). holidays_named entries a.0) (areas_of files) in
    record {
      faultless =
          staged files ∙ later c.in_ok-graph.ensures.faultless ∙ later c.in_ok-zones.ensures.faultless
          ∙ later c.in_ok-vehicles.ensures.faultless
          ∙ later c.in_ok-closures.ensures.value.faultless
          ∙ later c.in_ok-zones-2.ensures.faultless
          ∙ c.in_ok-tolls.ensures.faultless;
      stated =
          c.new.ensures
          ∙ same_network c.in_ok-graph.ensures.stated areas c.in_ok-zones.ensures.stated.on_roads c.in_ok-vehicles.ensures.stated.0
          c.in_ok-vehicles.ensures.stated.1
          c.in_ok-closures.ensures.value.stated.0
          c.in_ok-closures.ensures.value.stated.1
          c.in_ok-tolls.ensures.stated;
      refused = tt;
      cause = tt;
    }
