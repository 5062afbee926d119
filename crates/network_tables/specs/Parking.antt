-- parking.csv: the nodes where one may wait, what a minute costs there, and the hours in which one may (source: own; hours after
-- OpenStreetMap wiki, opening_hours).
use Rattle.std.specs.Prelude.{ℕ, ◌&&◌, ◌||◌, nat_eq, nat_lt, is_some, Bool, true, false, Option, Some, None, Result, Ok, Err, List, [], ◌∷◌, length, codes, if◌then◌else◌}
use Rattle.std.specs.List.{filter_map}
use Rattle.std.specs.Map.{lookup}
use Rattle.route_base.specs.Forms.{is_from_to, is_name, table_number_of}
use Rattle.route_base.specs.declared.faults.Cause.{Cause}
use Rattle.route_base.specs.declared.faults.Cause.TheVariants.{BadField, SizeLimit, NotHours, Unknown, Duplicate}
use Rattle.route_base.specs.declared.limits.TheConstants.{LONGEST_RULE, MOST_PARKING_ROWS}
use Rattle.opening_hours.specs.Reading.{hours_of}
use Rattle.opening_hours.specs.declared.types.HoursRule.{HoursRule}
use Rattle.table_reader.specs.NameIndex.{place_among, value_under}
use Rattle.table_reader.specs.Records.{Record}
use Rattle.table_reader.specs.Schema.{Schema}
use Rattle.network_tables.specs.Ratings.{Rating}

-- where one may wait: the weight, the place of the area whose clocks and holidays count, and the hours in which waiting is open, or none
-- where it always is
pub record ParkRow : Type 0 where
  pub weight : ℕ
  pub area : ℕ
  pub hours : Option (List HoursRule)

-- a node's number, and how one may wait there
abbrev pub Parked : Type 0
Parked = ℕ × ParkRow

-- the fields of a row as it is written: the name of an area may be empty, and so may hours
pub record ParkingFields : Type 0 where
  pub node : ℕ
  pub rating : List ℕ
  pub area : List ℕ
  pub hours : Option (List HoursRule)

abbrev pub hours_or_cause : Option (List HoursRule) → Result (Option (List HoursRule)) Cause
hours_or_cause None = Err NotHours
hours_or_cause (Some rules) = Ok (Some rules)

-- hours: nothing, or a text of hours
abbrev pub hours_in_field : List ℕ → Result (Option (List HoursRule)) Cause
hours_in_field [] = Ok None
hours_in_field (b ∷ text) = if nat_lt LONGEST_RULE (length (b ∷ text)) then Err SizeLimit else hours_or_cause (hours_of (b ∷ text))

abbrev pub is_empty : List ℕ → Bool
is_empty [] = true
is_empty (b ∷ text) = false

abbrev pub fields_with_hours : Option ℕ → List ℕ → List ℕ → Result (Option (List HoursRule)) Cause → Result ParkingFields Cause
fields_with_hours None rating area hours = Err BadField
fields_with_hours (Some node) rating area (Err cause) = Err cause
fields_with_hours (Some node) rating area (Ok hours) = Ok (record { node = node; rating = rating; area = area; hours = hours })

-- a number, a name, a name or nothing, and hours or nothing
abbrev pub four_fields_of : List ℕ → List ℕ → List ℕ → List ℕ → Result ParkingFields Cause
four_fields_of node rating area hours =
    if is_name rating && (is_empty area || is_name area)
    then fields_with_hours (table_number_of node) rating area (hours_in_field hours)
    else Err BadField

-- under the shorter header there is neither an area nor hours
abbrev pub parking_fields_of : Record → Result ParkingFields Cause
parking_fields_of (node ∷ rating ∷ []) = four_fields_of node rating [] []
parking_fields_of (node ∷ rating ∷ area ∷ hours ∷ []) = four_fields_of node rating area hours
parking_fields_of others = Err BadField

-- the place of an area by its name; without a name it is the first
abbrev pub place_or_first : List (List ℕ) → List ℕ → Option ℕ
place_or_first areas [] = Some 0
place_or_first areas (b ∷ name) = place_among areas (b ∷ name)

abbrev pub parked_with : ParkingFields → Option ℕ → Option ℕ → Result Parked Cause
parked_with fields (Some weight) (Some area) = Ok (fields.node, record { weight = weight; area = area; hours = fields.hours })
parked_with fields weight area = Err Unknown

-- the node is from 1 to `nodes`, and the rating and the area are known
abbrev pub parked_by : ℕ → List Rating → List (List ℕ) → Result ParkingFields Cause → Result Parked Cause
parked_by nodes ratings areas (Err cause) = Err cause
parked_by nodes ratings areas (Ok fields) =
    if is_from_to 1 nodes fields.node
    then parked_with fields (value_under ratings fields.rating) (place_or_first areas fields.area)
    else Err Unknown

-- what a row states, or its cause
abbrev pub parked_of : ℕ → List Rating → List (List ℕ) → Record → Result Parked Cause
parked_of nodes ratings areas row = parked_by nodes ratings areas (parking_fields_of row)

abbrev pub parked_stated : Result Parked Cause → Option Parked
parked_stated (Err cause) = None
parked_stated (Ok parked) = Some parked

-- how one may wait at a node, by these rows
abbrev pub park_for : List Parked → ℕ → Option ParkRow
park_for parked v = lookup (nat_eq v) parked

-- the node has no row yet
abbrev pub cause_of_parking : List Parked → Result Parked Cause → Option Cause
cause_of_parking before (Err cause) = Some cause
cause_of_parking before (Ok parked) = if is_some (park_for before parked.0) then Some Duplicate else None

-- what these rows state, in their order
abbrev pub parked_in : ℕ → List Rating → List (List ℕ) → List Record → List Parked
parked_in nodes ratings areas rows = filter_map (λ row. parked_stated (parked_of nodes ratings areas row)) rows

-- a node and a rating; or a node, a rating, an area and hours
abbrev pub parking_schema : ℕ → List Rating → List (List ℕ) → Schema
parking_schema nodes ratings areas = record {
  headers = (codes "node" ∷ codes "rating" ∷ []) ∷ (codes "node" ∷ codes "rating" ∷ codes "area" ∷ codes "hours" ∷ []) ∷ [];
  limit = MOST_PARKING_ROWS;
  cause = λ header before row. cause_of_parking (parked_in nodes ratings areas before) (parked_of nodes ratings areas row);
}
