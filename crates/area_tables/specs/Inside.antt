-- The tables of areas and of holidays while they are being read; this is machinery of the proofs, and no law (source: own).
use Rattle.std.specs.Prelude.{◌≡◌, ℕ, List, length, map}
use Rattle.std.specs.List.{IsDistinct}
use Rattle.std.specs.Str.{bytes_eq}
use Rattle.opening_hours.specs.Holidays.{HolidayLists}
use Rattle.table_reader.specs.NameIndex.{names_of}
use Rattle.area_tables.specs.Holidays.{HolidayEntry, rows_named}
use Rattle.area_tables.specs.Zones.{ZoneList}

-- zones by name, and areas by name with a place among them
pub record AreaPlaces : Type 0 where
  pub zones : ZoneList
  pub areas : List (List ℕ × ℕ)

-- areas by name, and days for each
pub record HolidayDays : Type 0 where
  pub areas : List (List ℕ × ℕ)
  pub days : List HolidayLists

-- no two areas have the same name, and there are days for each
pub record AreHolidayDays (t : HolidayDays) : Type 0 where
  pub distinct : IsDistinct bytes_eq (names_of t.areas)
  pub each : length t.days ≡ length t.areas

-- the second has the areas of the first, with the days that these rows name
pub record HaveDays (start now : HolidayDays) (entries : List HolidayEntry) : Type 0 where
  pub areas : now.areas ≡ start.areas
  pub days : now.days ≡ map (rows_named entries) (names_of start.areas)
