use Rattle.std.proofs.Common.{◌≡◌, ℕ, Bool, true, false, cond, Option, Some, None, List, [], ◌∷◌, ◌++◌, ap, sym, ◌∙◌, subst, refl}
use Rattle.std.specs.Option.{is_some}
use Rattle.std.proofs.lemmas.Result.{on_ok_weaker}
use Rattle.csv.specs.Records.{fields_of}
use Rattle.route_base.specs.declared.faults.Cause.{Cause}
use Rattle.route_base.specs.declared.faults.Cause.TheVariants.{Duplicate, Unknown}
use Rattle.area_tables.specs.Areas.{AreaEntry, area_of_record, areas_in, cause_of_area}
use Rattle.table_reader.specs.NameIndex.{value_under, names_of, place_among}
use Rattle.table_reader.specs.Records.{Record}
use Rattle.table_reader.proofs.RowRefusals.{refused_weaker}
use Rattle.area_tables.specs.AreaPlaces.{HaveZones}
use Rattle.area_tables.specs.Inside.{AreaPlaces}
use Rattle.area_tables.specs.Zones.{ZoneList}
use Rattle.area_tables.proofs.AreaRows.{place_is_some, cause_placed, HaveZones-more}
use Rattle.table_reader.proofs.Lists.{filter_map-push}
use Rattle.area_tables.proofs.areas.AreaTableTable.add.Goals as goal

-- the table that the rows before have made
abbrev ReadsInto : AreaPlaces → List Record → AreaPlaces → Type 0
ReadsInto start before t = (t.zones ≡ start.zones) × HaveZones start.zones (areas_in before) t.areas

-- that the next row has this cause, if it has one
abbrev Has : Record → Option Cause → AreaPlaces → Type 0
Has row cause t = (start : AreaPlaces) (before : List Record) → ReadsInto start before t
    → cause_of_area (value_under t.zones) (areas_in before) (area_of_record row) ≡ cause

zones_there : (start t : AreaPlaces) (before : List Record) → ReadsInto start before t → HaveZones t.zones (areas_in before) t.areas
zones_there start t before reads = subst (λ (z : ZoneList). HaveZones z (areas_in before) t.areas) (sym reads.0) reads.1

-- a row whose zone is there is a duplicate where its area has a row
next_cause : (t : AreaPlaces) (row : Record) (a : AreaEntry) (i : ℕ) (b : Bool) → area_of_record row ≡ Some a
    → place_among (names_of t.zones) a.1 ≡ Some i → is_some (value_under t.areas a.0) ≡ b → Has row (cond b (Some Duplicate) None) t
next_cause t row a i b is place held = λ start before reads.
    ap (λ (o : Option AreaEntry). cause_of_area (value_under t.zones) (areas_in before) o) is
    ∙ cause_placed t.zones (areas_in before) t.areas (zones_there start t before reads) a i b place held

pub returns-in_default-place-clause-refused : goal.returns-in_default-place-clause-refused
returns-in_default-place-clause-refused c =
    let table : AreaPlaces = record { zones = c.self.inside.zones.now; areas = c.self.inside.zone_places } in
    let a : AreaEntry = (c.in-Some.area.now, c.in-Some.zone.now) in
    let unknown : is_some (value_under table.zones a.1) ≡ false =
    sym (place_is_some table.zones a.1) ∙ ap (λ (o : Option ℕ). is_some o) (sym c.place.ensures.place ∙ c.in_default-place.is) in
    subst (Has (fields_of c.args.row.now) (Some Unknown)) c.self.view_is (λ start before reads.
    ap (λ (o : Option AreaEntry). cause_of_area (value_under table.zones) (areas_in before) o) (sym c.in-Some.ensures) ∙ rw unknown refl)

pub returns-clause-faultless : goal.returns-clause-faultless
returns-clause-faultless c =
    let row = fields_of c.args.row.now in
    let place = sym c.place.ensures.place ∙ c.in-Some-place.is in
    on_ok_weaker c.add.result (λ free. subst (Has row None) c.self.view_is
    (next_cause _ row (c.in-Some.area.now, c.in-Some.zone.now) _ false (sym c.in-Some.ensures) place (ap (λ (o : Option ℕ). is_some o) free)))
    c.add.ensures.free

pub returns-clause-added : goal.returns-clause-added
returns-clause-added c =
    let table : AreaPlaces = record { zones = c.self.inside.zones.now; areas = c.self.inside.zone_places } in
    let a : AreaEntry = (c.in-Some.area.now, c.in-Some.zone.now) in
    let place : place_among (names_of table.zones) a.1 ≡ Some c.in-Some-place.zone = sym c.place.ensures.place ∙ c.in-Some-place.is in
    on_ok_weaker c.add.result (λ added start before reads0.
    let reads = subst (ReadsInto start before) (sym c.self.view_is) reads0 in
    let there = subst (λ (z : ZoneList). place_among (names_of z) a.1 ≡ Some c.in-Some-place.zone) reads.0 place in (
      reads.0,
      subst (λ (placed : List (List ℕ × ℕ)). HaveZones start.zones (areas_in (before ++ fields_of c.args.row.now ∷ [])) placed) (sym added)
          (subst (λ (areas : List AreaEntry). HaveZones start.zones areas (table.areas ++ (a.0, c.in-Some-place.zone) ∷ []))
          (sym (filter_map-push area_of_record before (fields_of c.args.row.now) a (sym c.in-Some.ensures)))
          (HaveZones-more start.zones (areas_in before) table.areas reads.1 a c.in-Some-place.zone there)),
    ))
    c.add.ensures.added

pub returns-clause-refused : goal.returns-clause-refused
returns-clause-refused c =
    let row = fields_of c.args.row.now in
    let place = sym c.place.ensures.place ∙ c.in-Some-place.is in
    refused_weaker c.add.result _ (λ cause. Has row (Some cause) c.args.self.now)
    (λ cause taken. subst (Has row (Some cause)) c.self.view_is (λ start before reads.
    next_cause (record { zones = c.self.inside.zones.now; areas = c.self.inside.zone_places }) row (c.in-Some.area.now, c.in-Some.zone.now) _ true
    (sym c.in-Some.ensures) place taken.1 start before reads
    ∙ ap Some (sym taken.0)))
    c.add.ensures.refused
