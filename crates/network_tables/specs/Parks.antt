-- Parks as a network holds them: nodes with equal hours in one area share a timetable (source: own).
use Rattle.std.specs.Prelude.{◌<◌, ℕ, Option, None, List, length, map, All, unwrap_or, slice_get, option_and_then}
use Rattle.opening_hours.specs.declared.types.HoursRule.{HoursRule}
use Rattle.network_tables.specs.Parking.{ParkRow, Parked}
use Rattle.network_tables.specs.declared.parks.RatedNode.{RatedNode}
use Rattle.network_tables.specs.declared.parks.TimetablePlace.{TimetablePlace}

-- when one may wait: the place of the area whose clocks and holidays count, and the hours, or none where waiting always is open
pub record Timetable : Type 0 where
  pub area : ℕ
  pub hours : Option (List HoursRule)

-- for each node with a row its weight and the place of its timetable, and the timetables
pub record ParkLists : Type 0 where
  pub rated : List (ℕ × RatedNode)
  pub timetables : List Timetable

-- the timetable at a place from 0; one that isn't there is that of the first area, without hours
abbrev pub timetable_at : List Timetable → ℕ → Timetable
timetable_at timetables k = unwrap_or (slice_get timetables k) (record { area = 0; hours = None })

-- the row that a node stands for
abbrev pub park_with : List Timetable → RatedNode → ParkRow
park_with timetables node = record {
  weight = node.weight;
  area = (timetable_at timetables node.timetable).area;
  hours = (timetable_at timetables node.timetable).hours;
}

-- the rows of all nodes
abbrev pub parks_with : ParkLists → List Parked
parks_with parks = map (λ n. (n.0, park_with parks.timetables n.1)) parks.rated

-- the timetable of the node is there
abbrev pub HasTimetable : List Timetable → RatedNode → Type 0
HasTimetable timetables node = node.timetable < length timetables

-- each node's timetable is
abbrev pub HaveTimetables : ParkLists → Type 0
HaveTimetables parks = All (λ n. HasTimetable parks.timetables n.1) parks.rated

-- the area of the timetable is one of this number of areas
abbrev pub IsTimedIn : ℕ → Timetable → Type 0
IsTimedIn areas timetable = timetable.area < areas

-- the timetable of an area, with one of these hours or none
abbrev pub timetable_with : List (List HoursRule) → TimetablePlace → Timetable
timetable_with hours place = record { area = place.area; hours = option_and_then (λ i. slice_get hours i) place.hours }
