-- How a network is held: each zone once, and areas by the places of their zones (source: own).
use Rattle.std.specs.Prelude.{◌≡◌, ℕ, List, [], length, map, All, unwrap_or, slice_get}
use Rattle.std.specs.List.{zip}
use Rattle.opening_hours.specs.Holidays.{HolidayLists}
use Rattle.zone_rules.specs.declared.rows.ZoneRow.{ZoneRow}
use Rattle.network_tables.specs.NetworkModel.{Area, NetworkModel, AreBelow, IsGoodNetwork}
use Rattle.network_tables.specs.Parks.{parks_with, IsTimedIn}
use Rattle.network_tables.specs.declared.network.NetworkParts.{NetworkParts}

-- the zones at these places
abbrev pub zones_at : List (List ZoneRow) → List ℕ → List (List ZoneRow)
zones_at zones places = map (λ i. unwrap_or (slice_get zones i) []) places

-- the areas in these zones, with these holidays
abbrev pub areas_with : List (List ZoneRow) → List HolidayLists → List Area
areas_with zones holidays = map (λ p. record { zone = p.0; holidays = p.1 }) (zip zones holidays)

-- the network that has these parts
abbrev pub network_with : NetworkParts → NetworkModel
network_with parts = record {
  graph = parts.graph;
  areas = areas_with (zones_at parts.zones.items parts.zone_places.items) parts.holidays.items;
  roads = parts.roads.items;
  vehicles = parts.vehicles;
  rules = parts.rules.rules;
  passed_over = parts.rules.passed_over;
  closures = parts.closures;
  parks = parks_with parts.parks;
  tolls = parts.tolls;
}

-- a well-formed network: each area's zone is the one at its place in `zones`, there is one entry of holidays per area, and timetables
-- are those of areas
pub record HoldsNetwork (parts : NetworkParts) : Type 0 where
  pub good : IsGoodNetwork (network_with parts)
  pub zoned : AreBelow (length parts.zones.items) parts.zone_places.items
  pub dated : length parts.holidays.items ≡ length parts.zone_places.items
  pub timed : All (IsTimedIn (length (network_with parts).areas)) parts.parks.timetables
