-- Worked records of areas, roads and holidays: what the definitions say of them, by computing.
use Rattle.std.proofs.Common.{◌≡◌, ℕ, Option, List, [], ◌∷◌, Some, None, refl}
use Rattle.std.specs.Prelude.{codes}
use Rattle.std.specs.List.{filter}
use Rattle.route_base.specs.declared.faults.Cause.TheVariants.{BadField, Unknown, Duplicate}
use Rattle.calendar_days.specs.Days.{days_of_years, days_of_months}
use Rattle.calendar_days.specs.Texts.{day_of_text}
use Rattle.opening_hours.specs.Holidays.{is_listed}
use Rattle.route_base.specs.Forms.{is_name}
use Rattle.table_reader.specs.ByNumber.{given_by_number, numbered_in}
use Rattle.table_reader.specs.NameIndex.{names_of, value_under}
use Rattle.table_reader.specs.Records.{Record}
use Rattle.table_reader.specs.Schema.{first_table_fault}
use Rattle.table_reader.proofs.WorkedTables.{HaveFaults, two_fields, three_fields}
use Rattle.area_tables.specs.Areas.{areas_schema, areas_in, areas_or_default}
use Rattle.area_tables.specs.Holidays.{holidays_schema, holidays_in, rows_named, calendar_days}
use Rattle.area_tables.specs.Roads.{roads_schema, area_by_arc}

abbrev two_zones : List ℕ → Option ℕ
two_zones name = value_under ((codes "East", 0) ∷ (codes "UTC", 1) ∷ []) name

areas_stated : areas_or_default (areas_in (two_fields (codes "a") (codes "East") ∷ two_fields (codes "b") (codes "UTC") ∷ [])) ≡
    (codes "a", codes "East") ∷ (codes "b", codes "UTC") ∷ []
areas_stated = refl

-- without rows one area stands
default_area : areas_or_default (areas_in []) ≡ (codes "default", codes "UTC") ∷ []
default_area = refl

-- a zone that isn't there; an area that has a row; a zone that isn't there before an area that has a row; a field that is no name
area_faults : HaveFaults (areas_schema two_zones) (codes "area" ∷ codes "zone" ∷ []) (
    (two_fields (codes "a") (codes "West") ∷ [], Some (2, Unknown))
    ∷ (two_fields (codes "a") (codes "East") ∷ two_fields (codes "a") (codes "UTC") ∷ [], Some (3, Duplicate))
    ∷ (two_fields (codes "a") (codes "East") ∷ two_fields (codes "a") (codes "West") ∷ [], Some (3, Unknown))
    ∷ (two_fields (codes "a") (codes "Far East") ∷ [], Some (2, BadField))
    ∷ [])
unfolding first_table_fault
area_faults = refl

abbrev two_areas : List (List ℕ)
two_areas = names_of ((codes "a", codes "East") ∷ (codes "b", codes "UTC") ∷ [])

-- an arc without a row is in the first area
roads_stated : area_by_arc 3 two_areas (numbered_in is_name (two_fields (codes "2") (codes "b") ∷ two_fields (codes "1") (codes "a") ∷ [])) ≡ 0 ∷ 1 ∷ 0 ∷ []
unfolding given_by_number
roads_stated = refl

-- an area that isn't there; an arc after the last; an arc that has a row
road_faults : HaveFaults (roads_schema 3 two_areas) (codes "arc" ∷ codes "area" ∷ []) (
    (two_fields (codes "1") (codes "c") ∷ [], Some (2, Unknown))
    ∷ (two_fields (codes "4") (codes "a") ∷ [], Some (2, Unknown))
    ∷ (two_fields (codes "3") (codes "a") ∷ two_fields (codes "03") (codes "b") ∷ [], Some (3, Duplicate))
    ∷ [])
unfolding first_table_fault
road_faults = refl

abbrev three_holidays : List Record
three_holidays =
    three_fields (codes "b") (codes "PH") (codes "1970-02-01") ∷ three_fields (codes "a") (codes "PH") (codes "1970-01-02")
    ∷ three_fields (codes "b") (codes "SH") (codes "1970-01-01") ∷ []

-- each area has the days of its own rows, of either kind
holidays_stated : rows_named (holidays_in three_holidays) (codes "b") ≡ record { public = 31 ∷ []; school = 0 ∷ [] }
unfolding day_of_text days_of_years days_of_months
holidays_stated = refl

-- listed days once, in the order of the calendar
days_once : filter (λ day. is_listed day (2 ∷ 0 ∷ 2 ∷ [])) (calendar_days 4) ≡ 0 ∷ 2 ∷ []
unfolding calendar_days
days_once = refl

-- a row may be repeated; an area may not be there, and a kind that is none, or a date that is none, comes before that
holiday_faults : HaveFaults (holidays_schema two_areas) (codes "area" ∷ codes "kind" ∷ codes "date" ∷ []) (
    (three_fields (codes "a") (codes "PH") (codes "1970-01-02") ∷ three_fields (codes "a") (codes "PH") (codes "1970-01-02") ∷ [], None)
    ∷ (three_fields (codes "c") (codes "SH") (codes "1970-01-02") ∷ [], Some (2, Unknown))
    ∷ (three_fields (codes "c") (codes "ph") (codes "1970-01-02") ∷ [], Some (2, BadField))
    ∷ (three_fields (codes "c") (codes "PH") (codes "1970-02-29") ∷ [], Some (2, BadField))
    ∷ [])
unfolding first_table_fault day_of_text days_of_years days_of_months
holiday_faults = refl
