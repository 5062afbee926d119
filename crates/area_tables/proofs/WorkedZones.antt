-- Worked rows of zones: what the definitions say of them, by computing.
use Rattle.std.proofs.Common.{◌≡◌, List, [], ◌∷◌, map, Some, None, pos, negsuc, refl}
use Rattle.std.specs.Prelude.{codes}
use Rattle.calendar_days.specs.Texts.{instant_of}
use Rattle.route_base.specs.declared.faults.Cause.TheVariants.{BadField, NotRising}
use Rattle.table_reader.specs.Schema.{first_table_fault}
use Rattle.table_reader.specs.Records.{Record, rows_in}
use Rattle.table_reader.proofs.WorkedTables.{HaveFaults, three_fields}
use Rattle.area_tables.specs.Zones.{offset_of, zone_row, zone_entries_in, zone_named, zones_schema}

-- offsets to the east and to the west; one too far; sixty minutes; no sign, another sign, and no colon
offsets : map offset_of (
    codes "+05:45" ∷ codes "-03:30" ∷ codes "-00:00" ∷ codes "-18:00" ∷ codes "+18:01" ∷ codes "+01:60" ∷ codes "01:00" ∷ codes "*01:00" ∷ codes "+01.00" ∷ [])
    ≡ Some (pos 345) ∷ Some (negsuc 209) ∷ Some (pos 0) ∷ Some (negsuc 1079) ∷ None ∷ None ∷ None ∷ None ∷ None ∷ []
unfolding offset_of
offsets = refl

abbrev zones_header_row : Record
zones_header_row = codes "zone" ∷ codes "from" ∷ codes "offset" ∷ []

abbrev two_zones : List Record
two_zones =
    zones_header_row ∷ three_fields (codes "A") (codes "525600") (codes "+01:00") ∷ three_fields (codes "B") (codes "525600") (codes "-02:00")
    ∷ three_fields (codes "A") (codes "525601") (codes "+02:00") ∷ []

two_zones_faultless : first_table_fault zones_schema two_zones ≡ None
unfolding first_table_fault offset_of instant_of
two_zones_faultless = refl

rows_by_name : zone_named (zone_entries_in (rows_in two_zones)) (codes "A") ≡ Some (zone_row 525600 (pos 60) ∷ zone_row 525601 (pos 120) ∷ [])
unfolding offset_of instant_of
rows_by_name = refl

utc_given : zone_named (zone_entries_in (rows_in two_zones)) (codes "UTC") ≡ Some (zone_row 525600 (pos 0) ∷ [])
unfolding offset_of instant_of
utc_given = refl

none_of_the_name : zone_named (zone_entries_in (rows_in two_zones)) (codes "C") ≡ None
unfolding offset_of instant_of
none_of_the_name = refl

utc_of_the_file : zone_named (zone_entries_in (three_fields (codes "UTC") (codes "525600") (codes "+01:00") ∷ [])) (codes "UTC")
    ≡ Some (zone_row 525600 (pos 60) ∷ [])
unfolding offset_of instant_of
utc_of_the_file = refl

-- a start twice; a field that isn't in its form comes before a start that isn't above the one before
zone_faults : HaveFaults zones_schema zones_header_row (
    (three_fields (codes "A") (codes "525600") (codes "+01:00") ∷ three_fields (codes "A") (codes "525600") (codes "+02:00") ∷ [], Some (3, NotRising))
    ∷ (three_fields (codes "A") (codes "525600") (codes "+01:00") ∷ three_fields (codes "A") (codes "525600") (codes "+19:00") ∷ [], Some (3, BadField))
    ∷ [])
unfolding first_table_fault offset_of instant_of
zone_faults = refl
