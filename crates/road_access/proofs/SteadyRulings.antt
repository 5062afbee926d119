-- Instants that are so close that the same rule decides.
use Rattle.std.proofs.Common.{◌≡◌, ℕ, ◌+◌, ◌-◌, ◌≤◌, true, false, Bool, Option, Some, None, List, take, slice_get, arith}
use Rattle.std.proofs.Common.{refl, sym, ap, subst, ◌∙◌}
use Rattle.std.specs.Option.{option_or, option_and_then}
use Rattle.opening_hours.specs.Holidays.{HolidayLists}
use Rattle.vehicle_classes.specs.VehicleModel.{VehicleModel}
use Rattle.vehicle_classes.specs.declared.classes.Key.{Key}
use Rattle.zone_rules.specs.Zones.{wall_at}
use Rattle.zone_rules.specs.declared.rows.ZoneRow.{ZoneRow}
use Rattle.conditional_rules.specs.Decisions.{deciding_place}
use Rattle.conditional_rules.specs.declared.conditional.Clause.{Clause}
use Rattle.network_tables.specs.Access.{area_at, places_of, places_of_key}
use Rattle.network_tables.specs.NetworkModel.{Area, NetworkModel}
use Rattle.network_tables.specs.Rules.{conditional_at}
use Rattle.network_tables.specs.declared.rules.place.Scope.TheVariants as scopes
use Rattle.road_access.specs.Inside.{DecidesSteadily, PlacesSteadily}
use Rattle.road_access.specs.Rulings.{clause_ruling, deciding_at, ruling_at}
use Rattle.road_access.specs.Steadiness.{IsSoonAfter}
use Rattle.network_tables.proofs.ArcPlaces.{given_next, take_none}

same_clause : (vehicle : VehicleModel) (zone : List ZoneRow) (holidays : HolidayLists) (t count u : ℕ) (clauses : List Clause)
    → DecidesSteadily clauses (wall_at zone t).minute count → IsSoonAfter zone t count u
    → deciding_at vehicle zone holidays u clauses ≡ deciding_at vehicle zone holidays t clauses
same_clause vehicle zone holidays t count u clauses steady soon =
    let k : ℕ = (wall_at zone u).minute - (wall_at zone t).minute in
    let shown : (wall_at zone u).minute ≡ (wall_at zone t).minute + k = omega (arith, soon.from_on) in
    (λ i. deciding_place vehicle holidays (soon.day i) (shown i) clauses)
    ∙ steady vehicle holidays (wall_at zone t).day k (omega (arith, soon.from_on, soon.before))

same_value : (of_arc : Bool) (key : Key) (vehicle : VehicleModel) (zone : List ZoneRow) (holidays : HolidayLists) (t count u : ℕ)
    → (o : Option (List Clause)) → ((clauses : List Clause) → o ≡ Some clauses → DecidesSteadily clauses (wall_at zone t).minute count)
    → IsSoonAfter zone t count u
    → option_and_then (λ clauses. option_and_then (clause_ruling of_arc key clauses) (deciding_at vehicle zone holidays u clauses)) o
    ≡ option_and_then (λ clauses. option_and_then (clause_ruling of_arc key clauses) (deciding_at vehicle zone holidays t clauses)) o
same_value of_arc key vehicle zone holidays t count u None steady soon = refl
same_value of_arc key vehicle zone holidays t count u (Some clauses) steady soon =
    ap (option_and_then (clause_ruling of_arc key clauses)) (same_clause vehicle zone holidays t count u clauses (steady clauses refl) soon)

-- the values of an area and of an arc decide as long as one of them does
pub same_key : (network : NetworkModel) (vehicle : VehicleModel) (area a : ℕ) (key : Key) (t count : ℕ)
    → ((clauses : List Clause) → conditional_at network.rules (scopes.Area area) key ≡ Some clauses
    → DecidesSteadily clauses (wall_at (area_at network area).zone t).minute count)
    → ((clauses : List Clause) → conditional_at network.rules (scopes.Arc a) key ≡ Some clauses
    → DecidesSteadily clauses (wall_at (area_at network area).zone t).minute count)
    → PlacesSteadily network (area_at network area) vehicle t (places_of_key area a key) count
same_key network vehicle area a key t count general special u soon =
    let in_area : Area = area_at network area in
    let arc : ruling_at network in_area vehicle u (record { scope = scopes.Arc a; key = key; conditional = true })
    ≡ ruling_at network in_area vehicle t (record { scope = scopes.Arc a; key = key; conditional = true }) =
    same_value true key vehicle in_area.zone in_area.holidays t count u
    (conditional_at network.rules (scopes.Arc a) key) special soon in
    let of_area : ruling_at network in_area vehicle u (record { scope = scopes.Area area; key = key; conditional = true })
    ≡ ruling_at network in_area vehicle t (record { scope = scopes.Area area; key = key; conditional = true }) =
    same_value false key vehicle in_area.zone in_area.holidays t count u
    (conditional_at network.rules (scopes.Area area) key) general soon in
    λ i. option_or
    (option_or
    (option_or (option_or None (arc i)) (ruling_at network in_area vehicle t (record { scope = scopes.Arc a; key = key; conditional = false })))
    (of_area i))
    (ruling_at network in_area vehicle t (record { scope = scopes.Area area; key = key; conditional = false }))

sooner : (zone : List ZoneRow) (t count less u : ℕ) → less ≤ count → IsSoonAfter zone t less u → IsSoonAfter zone t count u
sooner zone t count less u within soon = record {
  day = soon.day;
  from_on = soon.from_on;
  before = omega (arith, within, soon.before);
}

-- the values of one key more
pub one_key_more : (network : NetworkModel) (vehicle : VehicleModel) (area a : ℕ) (keys : List Key) (k : ℕ) (key : Key) (t count less : ℕ)
    → slice_get keys k ≡ Some key → less ≤ count
    → PlacesSteadily network (area_at network area) vehicle t (places_of area a (take k keys)) count
    → PlacesSteadily network (area_at network area) vehicle t (places_of_key area a key) less
    → PlacesSteadily network (area_at network area) vehicle t (places_of area a (take (k + 1) keys)) less
one_key_more network vehicle area a keys k key t count less there within before here u soon =
    let far : IsSoonAfter (area_at network area).zone t count u = sooner (area_at network area).zone t count less u within soon in
    given_next (ruling_at network (area_at network area) vehicle u) area a keys k key there
    ∙ (λ i. option_or (here u soon i) (before u far i))
    ∙ sym (given_next (ruling_at network (area_at network area) vehicle t) area a keys k key there)

-- the values of all keys
pub all_keys : (network : NetworkModel) (vehicle : VehicleModel) (area a : ℕ) (keys : List Key) (k t count : ℕ) → slice_get keys k ≡ None
    → PlacesSteadily network (area_at network area) vehicle t (places_of area a (take k keys)) count
    → PlacesSteadily network (area_at network area) vehicle t (places_of area a keys) count
all_keys network vehicle area a keys k t count none before =
    subst (λ (some : List Key). PlacesSteadily network (area_at network area) vehicle t (places_of area a some) count)
    (take_none keys k none) before
