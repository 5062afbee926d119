use Rattle.std.proofs.Common.{◌≡◌, List, ℕ, None, map, subst, ap, ◌∙◌}
use Rattle.opening_hours.specs.Holidays.{HolidayLists}
use Rattle.table_reader.specs.NameIndex.{names_of}
use Rattle.table_reader.specs.Records.{records_of, rows_of}
use Rattle.table_reader.specs.Schema.{first_table_fault}
use Rattle.table_reader.proofs.Lists.{map-map}
use Rattle.area_tables.specs.Holidays.{holidays_schema, holidays_in, in_calendar, rows_named, holidays_named}
use Rattle.area_tables.proofs.holidays.read_holidays.Goals as goal

pub returns : goal.returns
returns c =
    let bytes = c.args.bytes.now in
    let entries = holidays_in (rows_of bytes) in
    let read = c.in_ok-table.ensures in
    let areas = c.in_ok-new.ensures.areas in
    record {
      faultless =
          subst (λ (known : List (List ℕ × ℕ)). first_table_fault (holidays_schema (names_of known)) (records_of bytes) ≡ None) areas read.faultless;
      stated =
          c.in_ok-into_holidays.ensures
          ∙ ap (λ (days : List HolidayLists). map in_calendar days) read.stated.days
          ∙ map-map in_calendar (rows_named entries) (names_of c.in_ok-new.field-0.areas)
          ∙ ap (λ (known : List (List ℕ × ℕ)). map (holidays_named entries) (names_of known)) areas;
      refused = tt;
      cause = tt;
    }
