-- The place that the zone of each area has among all zones (source: own).
use Rattle.std.specs.Prelude.{◌≡◌, ℕ, Option, Some, List, map}
use Rattle.table_reader.specs.NameIndex.{names_of, place_among}
use Rattle.area_tables.specs.Areas.{AreaEntry}
use Rattle.area_tables.specs.Zones.{ZoneList}

-- the place that an area has, by its name
abbrev pub placed_area : List ℕ × ℕ → List ℕ × Option ℕ
placed_area p = (p.0, Some p.1)

-- the place that the zone of an area has
abbrev pub sought_area : ZoneList → AreaEntry → List ℕ × Option ℕ
sought_area zones a = (a.0, place_among (names_of zones) a.1)

-- `placed` are these areas, in their order, each with the place of its zone, which is known
pub record HaveZones (zones : ZoneList) (areas : List AreaEntry) (placed : List (List ℕ × ℕ)) : Type 0 where
  pub each : map placed_area placed ≡ map (sought_area zones) areas
