-- The access that places of keys give, one key after another.
use Rattle.std.proofs.Common.{◌≡◌, ℕ, ◌+◌, Option, Some, option_and_then, List, take, slice_get, sym, ◌∙◌, ap}
use Rattle.std.specs.Option.{option_or, option_map}
use Rattle.opening_hours.specs.Holidays.{HolidayLists}
use Rattle.zone_rules.specs.declared.rows.ZoneRow.{ZoneRow}
use Rattle.vehicle_classes.specs.Classes.{keys_of}
use Rattle.vehicle_classes.specs.VehicleModel.{VehicleModel}
use Rattle.vehicle_classes.specs.declared.classes.Key.{Key}
use Rattle.conditional_rules.specs.Decisions.{last_given}
use Rattle.conditional_rules.specs.declared.conditional.Clause.{Clause}
use Rattle.network_tables.specs.Access.{access_given, area_at, area_place, decision_at, given_at, places_of_key}
use Rattle.network_tables.specs.NetworkModel.{Area, NetworkModel}
use Rattle.network_tables.proofs.ArcPlaces.{given_next, holidays_there, zone_there}

-- what the values of one key more give, where the arc's area is known
pub next_access : (network : NetworkModel) (vehicle : VehicleModel) (a t k : ℕ) (key : Key) (area : ℕ) → area_place network a ≡ area
    → slice_get (keys_of vehicle.class) k ≡ Some key
    → access_given network vehicle a t (take (k + 1) (keys_of vehicle.class))
    ≡ option_or (last_given (given_at network (area_at network area) vehicle t) (places_of_key area a key))
    (access_given network vehicle a t (take k (keys_of vehicle.class)))
next_access network vehicle a t k key area place there =
    given_next (given_at network (area_at network (area_place network a)) vehicle t) (area_place network a) a (keys_of vehicle.class) k key there
    ∙ ap (λ (n : ℕ). option_or (last_given (given_at network (area_at network n) vehicle t) (places_of_key n a key))
    (access_given network vehicle a t (take k (keys_of vehicle.class)))) place

-- clauses decide by the clocks and the holidays of their area
pub decided_there : (network : NetworkModel) (vehicle : VehicleModel) (area t : ℕ) {zone : List ZoneRow} {holidays : HolidayLists}
    → option_map (λ (a : Area). a.zone) (slice_get network.areas area) ≡ Some zone
    → option_map (λ (a : Area). a.holidays) (slice_get network.areas area) ≡ Some holidays → (o : Option (List Clause))
    → option_and_then (decision_at vehicle zone holidays t) o
    ≡ option_and_then (decision_at vehicle (area_at network area).zone (area_at network area).holidays t) o
decided_there network vehicle area t {zone = zone} {holidays = holidays} zoned held o =
    ap (λ (z : List ZoneRow). option_and_then (decision_at vehicle z holidays t) o)
    (sym (zone_there network area zone zoned))
    ∙ ap (λ (h : HolidayLists). option_and_then (decision_at vehicle (area_at network area).zone h t) o)
    (sym (holidays_there network area holidays held))
