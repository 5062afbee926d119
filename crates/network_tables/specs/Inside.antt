-- The stages in which the files of a network are read; this is machinery of the proofs, and no law (source: own).
use Rattle.std.specs.Prelude.{◌≡◌, ℕ, Option, List, [], ◌∷◌, map}
use Rattle.opening_hours.specs.Holidays.{HolidayLists}
use Rattle.route_base.specs.declared.faults.BadInput.{BadInput}
use Rattle.table_reader.specs.NameIndex.{names_of}
use Rattle.table_reader.specs.Records.{rows_of}
use Rattle.zone_rules.specs.declared.rows.ZoneRow.{ZoneRow}
use Rattle.area_tables.specs.AreaPlaces.{HaveZones}
use Rattle.area_tables.specs.Holidays.{holidays_named}
use Rattle.network_tables.specs.NetworkFiles.{areas_of, roads_of, holidays_of, first_some}
use Rattle.network_tables.specs.NetworkFiles.{zones_fault, areas_fault, roads_fault, vehicles_fault, rules_fault, closures_fault, ratings_fault, parking_fault}
use Rattle.area_tables.specs.Zones.{HasZones, ZoneList, zone_entries_in}
use Rattle.network_tables.specs.declared.files.Files.{Files}

-- the first fault of zones, areas and roads
abbrev pub places_fault : Files → Option BadInput
places_fault files = first_some (zones_fault files ∷ areas_fault files ∷ roads_fault files ∷ [])

-- the first fault of vehicles and rules
abbrev pub access_fault : Files → Option BadInput
access_fault files = first_some (vehicles_fault files ∷ rules_fault files ∷ [])

-- the first fault of closures, ratings and parking
abbrev pub limits_fault : Files → Option BadInput
limits_fault files = first_some (closures_fault files ∷ ratings_fault files ∷ parking_fault files ∷ [])

-- zones by name, areas with the places of their zones, and the place of each arc's area
pub record HavePlaces (files : Files) (zones : ZoneList) (areas : List (List ℕ × ℕ)) (roads : List ℕ) : Type 0 where
  pub zoned : HasZones zones (zone_entries_in (rows_of files.zones))
  pub placed : HaveZones zones (areas_of files) areas
  pub on_roads : roads ≡ roads_of files

-- the rows of these zones, and for each of these areas the place of its zone and its holidays
pub record IsCalendar (files : Files) (zones : ZoneList) (areas : List (List ℕ × ℕ)) (rows : List (List ZoneRow)) (places : List ℕ)
    (holidays : List HolidayLists) : Type 0 where
  pub zoned : rows ≡ map (λ z. z.1) zones
  pub placed : places ≡ map (λ a. a.1) areas
  pub dated : holidays ≡ map (holidays_named (holidays_of files)) (names_of areas)
