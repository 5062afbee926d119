-- The rule that decides an arc's access (source: OpenStreetMap wiki, access keys; the order is own).
use Rattle.std.specs.Prelude.{ℕ, ◌+◌, Bool, true, false, Option, List, slice_get, if◌then◌else◌}
use Rattle.std.specs.Option.{option_map, option_and_then}
use Rattle.opening_hours.specs.Holidays.{HolidayLists}
use Rattle.zone_rules.specs.Zones.{wall_at}
use Rattle.zone_rules.specs.declared.rows.ZoneRow.{ZoneRow}
use Rattle.vehicle_classes.specs.VehicleModel.{VehicleModel}
use Rattle.vehicle_classes.specs.declared.classes.Key.{Key}
use Rattle.conditional_rules.specs.Decisions.{deciding_place, last_given}
use Rattle.conditional_rules.specs.declared.access.Access.{Access}
use Rattle.conditional_rules.specs.declared.conditional.Clause.{Clause}
use Rattle.network_tables.specs.Access.{area_at, area_place, places_of}
use Rattle.network_tables.specs.NetworkModel.{Area, NetworkModel}
use Rattle.network_tables.specs.Rules.{plain_at, conditional_at, is_arc}
use Rattle.network_tables.specs.declared.rules.place.RulePlace.{RulePlace}
use Rattle.road_access.specs.declared.rulings.Ruling.{Ruling}

-- the ruling of a plain value, which has one clause
abbrev pub plain_ruling : Bool → Key → Access → Ruling
plain_ruling of_arc key access = record { of_arc = of_arc; key = key; conditional = false; clause = 1; access = access }

-- the ruling of the clause at a place from 0 of a conditional value
abbrev pub clause_ruling : Bool → Key → List Clause → ℕ → Option Ruling
clause_ruling of_arc key clauses i =
    option_map (λ c. record { of_arc = of_arc; key = key; conditional = true; clause = i + 1; access = c.access }) (slice_get clauses i)

-- the place of the clause that decides when clocks in the zone are read at this instant
abbrev pub deciding_at : VehicleModel → List ZoneRow → HolidayLists → ℕ → List Clause → Option ℕ
deciding_at vehicle zone holidays t clauses = deciding_place vehicle holidays (wall_at zone t).day (wall_at zone t).minute clauses

-- the ruling of the value at a place, in this area
abbrev pub ruling_at : NetworkModel → Area → VehicleModel → ℕ → RulePlace → Option Ruling
ruling_at network area vehicle t place =
    if place.conditional
    then option_and_then
    (λ clauses. option_and_then (clause_ruling (is_arc place.scope) place.key clauses)
    (deciding_at vehicle area.zone area.holidays t clauses))
    (conditional_at network.rules place.scope place.key)
    else option_map (plain_ruling (is_arc place.scope) place.key) (plain_at network.rules place.scope place.key)

-- the ruling of the last of the places of these keys, of those that give one
abbrev pub ruling_given : NetworkModel → VehicleModel → ℕ → ℕ → List Key → Option Ruling
ruling_given network vehicle a t keys =
    last_given (ruling_at network (area_at network (area_place network a)) vehicle t) (places_of (area_place network a) a keys)
