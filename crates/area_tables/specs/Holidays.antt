-- holidays.csv: public and school holidays of areas (source: own; the kinds are those of the OpenStreetMap wiki).
use Rattle.std.specs.Prelude.{ℕ, ◌+◌, Bool, true, false, ◌&&◌, is_some, Option, Some, None, List, [], ◌∷◌, map, filter, codes, bytes_eq, if◌then◌else◌}
use Rattle.std.specs.List.{filter_map, range_with_len}
use Rattle.std.specs.Option.{option_map, option_and_then}
use Rattle.route_base.specs.Forms.{is_name}
use Rattle.route_base.specs.declared.faults.Cause.{Cause}
use Rattle.route_base.specs.declared.faults.Cause.TheVariants.{BadField, Unknown}
use Rattle.calendar_days.specs.Texts.{day_of_text}
use Rattle.opening_hours.specs.Holidays.{HolidayLists, is_listed}
use Rattle.area_tables.specs.declared.holidays.row.Holiday.{Holiday}
use Rattle.area_tables.specs.declared.holidays.row.HolidayKind.{HolidayKind}
use Rattle.area_tables.specs.declared.holidays.row.HolidayKind.TheVariants.{Public, School}
use Rattle.route_base.specs.declared.limits.TheConstants.{LAST_DAY, MOST_HOLIDAYS}
use Rattle.table_reader.specs.Schema.{Schema}
use Rattle.table_reader.specs.NameIndex.{place_among}
use Rattle.table_reader.specs.Records.{Record}

-- `PH` are public holidays, and `SH` those of schools
abbrev pub kind_of : List ℕ → Option HolidayKind
kind_of word = if bytes_eq word (codes "PH") then Some Public else if bytes_eq word (codes "SH") then Some School else None

-- an area's name, and one of its holidays
abbrev pub HolidayEntry : Type 0
HolidayEntry = List ℕ × Holiday

-- a name, a kind and a date
abbrev pub holiday_of : Record → Option HolidayEntry
holiday_of (area ∷ kind ∷ date ∷ []) =
    if is_name area
    then option_and_then (λ k. option_map (λ d. (area, record { kind = k; day = d })) (day_of_text date)) (kind_of kind)
    else None
holiday_of others = None

-- the area is known
abbrev pub cause_of_holiday : List (List ℕ) → Option HolidayEntry → Option Cause
cause_of_holiday areas None = Some BadField
cause_of_holiday areas (Some h) = if is_some (place_among areas h.0) then None else Some Unknown

-- rows that name one of these areas; a row may be repeated
abbrev pub holidays_schema : List (List ℕ) → Schema
holidays_schema areas = record {
  headers = (codes "area" ∷ codes "kind" ∷ codes "date" ∷ []) ∷ [];
  limit = MOST_HOLIDAYS;
  cause = λ header before row. cause_of_holiday areas (holiday_of row);
}

-- the holidays of these rows in their order
abbrev pub holidays_in : List Record → List HolidayEntry
holidays_in rows = filter_map holiday_of rows

-- the same kind
abbrev pub is_kind : HolidayKind → HolidayKind → Bool
is_kind Public Public = true
is_kind Public School = false
is_kind School Public = false
is_kind School School = true

-- the days that the rows name for an area and a kind, in the order of the rows
abbrev pub days_named : List HolidayEntry → List ℕ → HolidayKind → List ℕ
days_named entries area kind = map (λ h. h.1.day) (filter (λ h. bytes_eq h.0 area && is_kind kind h.1.kind) entries)

-- the first n days of the calendar, from 1970-01-01 on
unfoldable pub calendar_days : ℕ → List ℕ
calendar_days n = range_with_len 0 n

-- the days of the calendar, up to 2200-12-31, that are listed
abbrev pub days_listed : List ℕ → List ℕ
days_listed days = filter (λ day. is_listed day days) (calendar_days (LAST_DAY + 1))

-- the same of both kinds
abbrev pub in_calendar : HolidayLists → HolidayLists
in_calendar lists = record { public = days_listed lists.public; school = days_listed lists.school }

-- the days of both kinds that the rows name for an area
abbrev pub rows_named : List HolidayEntry → List ℕ → HolidayLists
rows_named entries area = record { public = days_named entries area Public; school = days_named entries area School }

-- the holidays of an area: the days of the calendar, in their order, that some row names for it
abbrev pub holidays_named : List HolidayEntry → List ℕ → HolidayLists
holidays_named entries area = in_calendar (rows_named entries area)
