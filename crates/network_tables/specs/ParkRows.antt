-- Parks while their table is being read; this is machinery, and no law (source: own).
use Rattle.std.specs.Prelude.{◌≡◌, ◌<◌, ◌⊎◌, ℕ, Option, Some, Ok, List, [], ◌∷◌, ◌++◌, length, map, All, IfSome, slice_get, option_and_then}
use Rattle.opening_hours.specs.declared.types.HoursRule.{HoursRule}
use Rattle.table_reader.specs.NameIndex.{names_of}
use Rattle.table_reader.specs.Records.{Record}
use Rattle.network_tables.specs.Parking.{ParkingFields, hours_in_field, parked_in}
use Rattle.network_tables.specs.Parks.{ParkLists, HaveTimetables, parks_with, timetable_with}
use Rattle.network_tables.specs.Ratings.{Rating}
use Rattle.network_tables.specs.declared.parking.ParkingRow.{ParkingRow}
use Rattle.network_tables.specs.declared.parks.RatedNode.{RatedNode}
use Rattle.network_tables.specs.declared.parks.TimetablePlace.{TimetablePlace}

-- the hours are those of the text
abbrev pub IsRead : List ℕ × List HoursRule → Type 0
IsRead entry = hours_in_field entry.0 ≡ Ok (Some entry.1)

-- what is at a place stays there
abbrev pub Keeps : {X : Type 0} → List X → List X → Type 0
Keeps old new = (i : ℕ) (x : _) → slice_get old i ≡ Some x → slice_get new i ≡ Some x

-- the hours at a place, or none
abbrev pub hours_at : List (List HoursRule) → Option ℕ → Option (List HoursRule)
hours_at hours place = option_and_then (λ i. slice_get hours i) place

-- hours are there, if they have a place
abbrev pub AreThere : List (List HoursRule) → Option ℕ → Type 0
AreThere hours place = IfSome place (λ i. i < length hours)

-- the fields of a row, whose hours are at a place
abbrev pub fields_with : List (List HoursRule) → ParkingRow → ParkingFields
fields_with hours row = record { node = row.node; rating = row.rating.now; area = row.area.now; hours = hours_at hours row.hours }

-- the table so far: the nodes, the ratings and the areas for which it stands; hours, timetables by the places of their hours, and
-- the nodes that have rows
pub record ParkingSoFar : Type 0 where
  pub nodes : ℕ
  pub ratings : List Rating
  pub areas : List (List ℕ × ℕ)
  pub hours : List (List HoursRule)
  pub timetables : List TimetablePlace
  pub rated : List (ℕ × RatedNode)

-- what a network would hold
abbrev pub park_lists : ParkingSoFar → ParkLists
park_lists table = record { rated = table.rated; timetables = map (timetable_with table.hours) table.timetables }

-- the node has a row now, with the weight and a timetable of these places
pub record Puts (old new : ParkingSoFar) (node weight : ℕ) (place : TimetablePlace) : Type 0 where
  pub timetable : ℕ
  pub nodes : new.nodes ≡ old.nodes
  pub ratings : new.ratings ≡ old.ratings
  pub areas : new.areas ≡ old.areas
  pub hours : new.hours ≡ old.hours
  pub timetables : (new.timetables ≡ old.timetables) ⊎ (new.timetables ≡ old.timetables ++ place ∷ [])
  pub there : slice_get new.timetables timetable ≡ Some place
  pub rated : new.rated ≡ old.rated ++ (node, record { weight = weight; timetable = timetable }) ∷ []

-- the timetable has hours and an area that are there
pub record IsTimetable (areas : ℕ) (hours : List (List HoursRule)) (place : TimetablePlace) : Type 0 where
  pub heard : AreThere hours place.hours
  pub placed : place.area < areas

-- the table `now` has these rows, and stands for what `start` stands for
pub record HaveParks (start now : ParkingSoFar) (rows : List Record) : Type 0 where
  pub nodes : now.nodes ≡ start.nodes
  pub ratings : now.ratings ≡ start.ratings
  pub areas : now.areas ≡ start.areas
  pub some : 0 < length start.areas
  pub stated : parks_with (park_lists now) ≡ parked_in start.nodes start.ratings (names_of start.areas) rows
  pub timed : HaveTimetables (park_lists now)
  pub timetables : All (IsTimetable (length start.areas) now.hours) now.timetables
