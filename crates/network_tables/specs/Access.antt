-- The access that an arc gives a vehicle at an instant (source: OpenStreetMap wiki, access keys; the order is own).
use Rattle.std.specs.Prelude.{ℕ, ◌||◌, Bool, true, false, not, Option, None, Some, slice_get, unwrap_or, if◌then◌else◌}
use Rattle.std.specs.Prelude.{List, [], ◌∷◌, ◌++◌}
use Rattle.std.specs.Option.{option_and_then}
use Rattle.route_base.specs.Net.{at_number}
use Rattle.route_base.specs.Runs.{any_has}
use Rattle.opening_hours.specs.Holidays.{HolidayLists}
use Rattle.opening_hours.specs.declared.types.HoursRule.{HoursRule}
use Rattle.zone_rules.specs.Zones.{wall_at}
use Rattle.zone_rules.specs.declared.rows.ZoneRow.{ZoneRow}
use Rattle.vehicle_classes.specs.Classes.{keys_of}
use Rattle.vehicle_classes.specs.VehicleModel.{VehicleModel}
use Rattle.vehicle_classes.specs.declared.classes.Key.{Key}
use Rattle.conditional_rules.specs.Accesses.{lets_purpose_in}
use Rattle.conditional_rules.specs.Decisions.{decision, last_given}
use Rattle.conditional_rules.specs.declared.access.Access.{Access}
use Rattle.conditional_rules.specs.declared.access.Access.TheVariants.{Free}
use Rattle.conditional_rules.specs.declared.conditional.Clause.{Clause}
use Rattle.covered_minutes.specs.Coverage.{covered_at}
use Rattle.network_tables.specs.NetworkModel.{Area, NetworkModel, closures_of}
use Rattle.network_tables.specs.Parking.{ParkRow}
use Rattle.network_tables.specs.Rules.{plain_at, conditional_at}
use Rattle.network_tables.specs.declared.rules.place.RulePlace.{RulePlace}
use Rattle.network_tables.specs.declared.rules.place.Scope.TheVariants as scopes

-- the place of the arc's area among the areas
abbrev pub area_place : NetworkModel → ℕ → ℕ
area_place network a = unwrap_or (at_number network.roads a) 0

-- the area at a place
abbrev pub area_at : NetworkModel → ℕ → Area
area_at network place = unwrap_or (slice_get network.areas place) (record { zone = []; holidays = record { public = []; school = [] } })

-- the places at which a value of a key may stand for an arc in an area, from general to special: the area's two, then the arc's
abbrev pub places_of_key : ℕ → ℕ → Key → List RulePlace
places_of_key area a key =
    record { scope = scopes.Area area; key = key; conditional = false }
    ∷ record { scope = scopes.Area area; key = key; conditional = true }
    ∷ record { scope = scopes.Arc a; key = key; conditional = false }
    ∷ record { scope = scopes.Arc a; key = key; conditional = true }
    ∷ []

-- the places of these keys, one key after another
abbrev pub places_of : ℕ → ℕ → List Key → List RulePlace
places_of area a [] = []
places_of area a (key ∷ keys) = places_of_key area a key ++ places_of area a keys

-- the access of the last clause that holds for the vehicle when clocks in the zone are read at this instant
abbrev pub decision_at : VehicleModel → List ZoneRow → HolidayLists → ℕ → List Clause → Option Access
decision_at vehicle zone holidays t clauses = decision vehicle holidays (wall_at zone t).day (wall_at zone t).minute clauses

-- the access that the value at a place gives the vehicle at an instant, in this area
abbrev pub given_at : NetworkModel → Area → VehicleModel → ℕ → RulePlace → Option Access
given_at network area vehicle t place =
    if place.conditional
    then option_and_then (decision_at vehicle area.zone area.holidays t) (conditional_at network.rules place.scope place.key)
    else plain_at network.rules place.scope place.key

-- the access that the last of the places of these keys gives, of those that give one
abbrev pub access_given : NetworkModel → VehicleModel → ℕ → ℕ → List Key → Option Access
access_given network vehicle a t keys =
    last_given (given_at network (area_at network (area_place network a)) vehicle t) (places_of (area_place network a) a keys)

-- the access that the last place gives, and free access where no place gives any
abbrev pub access_at : NetworkModel → VehicleModel → ℕ → ℕ → Access
access_at network vehicle a t = unwrap_or (access_given network vehicle a t (keys_of vehicle.class)) Free

-- whether the arc's access lets the vehicle in
abbrev pub is_let_in : NetworkModel → VehicleModel → ℕ → ℕ → Bool
is_let_in network vehicle a t = lets_purpose_in (access_at network vehicle a t) vehicle.purpose

-- whether the arc is closed to the vehicle: its access doesn't let it in, or one of its closures has the minute
abbrev pub is_closed : NetworkModel → VehicleModel → ℕ → ℕ → Bool
is_closed network vehicle a t = not (is_let_in network vehicle a t) || any_has (closures_of network a) t

-- whether the hours, if there are any, cover the instant by the clocks and the holidays of the area
abbrev pub is_open_by : Option (List HoursRule) → Area → ℕ → Bool
is_open_by None area t = true
is_open_by (Some rules) area t = covered_at rules area.holidays area.zone t

-- whether one may wait at the node at this instant
abbrev pub is_park_open : NetworkModel → Option ParkRow → ℕ → Bool
is_park_open network None t = false
is_park_open network (Some park) t = is_open_by park.hours (area_at network park.area) t
