-- The access of the ruling is the access that decides.
use Rattle.std.proofs.Common.{◌≡◌, ℕ, Bool, true, false, Option, Some, None, List, [], ◌∷◌, slice_get, unwrap_or, refl, sym, ◌∙◌}
use Rattle.std.proofs.Common.{ap, if◌then◌else◌}
use Rattle.std.specs.Option.{option_or, option_map, option_and_then}
use Rattle.vehicle_classes.specs.Classes.{keys_of}
use Rattle.vehicle_classes.specs.VehicleModel.{VehicleModel}
use Rattle.vehicle_classes.specs.declared.classes.Key.{Key}
use Rattle.zone_rules.specs.Zones.{wall_at}
use Rattle.conditional_rules.specs.Accesses.{lets_purpose_in}
use Rattle.conditional_rules.specs.declared.access.Access.TheVariants.{Free}
use Rattle.conditional_rules.specs.Decisions.{clause_holds, last_given}
use Rattle.conditional_rules.specs.declared.access.Access.{Access}
use Rattle.conditional_rules.specs.declared.conditional.Clause.{Clause}
use Rattle.conditional_rules.proofs.LastPlace.{given_at_last}
use Rattle.network_tables.specs.Access.{access_given, area_at, area_place, decision_at, given_at, is_let_in, places_of}
use Rattle.network_tables.specs.NetworkModel.{Area, NetworkModel}
use Rattle.network_tables.specs.Rules.{plain_at, conditional_at, is_arc}
use Rattle.network_tables.specs.declared.rules.place.RulePlace.{RulePlace}
use Rattle.road_access.specs.declared.rulings.Ruling.{Ruling}
use Rattle.road_access.specs.Rulings.{clause_ruling, deciding_at, plain_ruling, ruling_at, ruling_given}

over_or : {A B : Type 0} (g : A → B) (o p : Option A) → option_map g (option_or o p) ≡ option_or (option_map g o) (option_map g p)
over_or g None p = refl
over_or g (Some x) p = refl

-- what the last gives, seen through a function
last_over : {P A B : Type 0} (g : A → B) (f : P → Option A) (h : P → Option B) → ((p : P) → option_map g (f p) ≡ h p)
    → (ps : List P) → option_map g (last_given f ps) ≡ last_given h ps
last_over g f h same [] = refl
last_over g f h same (p ∷ ps) =
    over_or g (last_given f ps) (f p)
    ∙ (λ i. option_or (last_over g f h same ps i) (same p i))

plain_access : (of_arc : Bool) (key : Key) (o : Option Access) → option_map (λ r. r.access) (option_map (plain_ruling of_arc key) o) ≡ o
plain_access of_arc key None = refl
plain_access of_arc key (Some access) = refl

mapped_twice : {A B C : Type 0} (g : B → C) (f : A → B) (h : A → C) → ((x : A) → g (f x) ≡ h x) → (o : Option A)
    → option_map g (option_map f o) ≡ option_map h o
mapped_twice g f h same None = refl
mapped_twice g f h same (Some x) = ap (λ y. Some y) (same x)

through : {A B C : Type 0} (g : B → C) (f : A → Option B) (h : A → Option C) → ((x : A) → option_map g (f x) ≡ h x) → (o : Option A)
    → option_map g (option_and_then f o) ≡ option_and_then h o
through g f h same None = refl
through g f h same (Some x) = same x

clause_access : (of_arc : Bool) (key : Key) (clauses : List Clause) (i : ℕ)
    → option_map (λ r. r.access) (clause_ruling of_arc key clauses i) ≡ option_map (λ c. c.access) (slice_get clauses i)
clause_access of_arc key clauses i = mapped_twice _ _ (λ c. c.access) (λ c. refl) (slice_get clauses i)

decided_access : (of_arc : Bool) (key : Key) (vehicle : VehicleModel) (area : Area) (t : ℕ) (clauses : List Clause)
    → option_map (λ r. r.access) (option_and_then (clause_ruling of_arc key clauses) (deciding_at vehicle area.zone area.holidays t clauses))
    ≡ decision_at vehicle area.zone area.holidays t clauses
decided_access of_arc key vehicle area t clauses =
    through (λ (r : Ruling). r.access) (clause_ruling of_arc key clauses) (λ i. option_map (λ c. c.access) (slice_get clauses i))
    (clause_access of_arc key clauses) (deciding_at vehicle area.zone area.holidays t clauses)
    ∙ given_at_last (clause_holds vehicle area.holidays (wall_at area.zone t).day (wall_at area.zone t).minute) (λ c. c.access) clauses

place_access : (network : NetworkModel) (area : Area) (vehicle : VehicleModel) (t : ℕ) (conditional : Bool) (place : RulePlace)
    → option_map (λ (r : Ruling). r.access) (if conditional
    then option_and_then
    (λ clauses. option_and_then (clause_ruling (is_arc place.scope) place.key clauses)
    (deciding_at vehicle area.zone area.holidays t clauses))
    (conditional_at network.rules place.scope place.key)
    else option_map (plain_ruling (is_arc place.scope) place.key) (plain_at network.rules place.scope place.key))
    ≡ (if conditional
    then option_and_then (decision_at vehicle area.zone area.holidays t) (conditional_at network.rules place.scope place.key)
    else plain_at network.rules place.scope place.key)
place_access network area vehicle t true place =
    through (λ (r : Ruling). r.access)
    (λ clauses. option_and_then (clause_ruling (is_arc place.scope) place.key clauses)
    (deciding_at vehicle area.zone area.holidays t clauses))
    (decision_at vehicle area.zone area.holidays t)
    (λ clauses. decided_access (is_arc place.scope) place.key vehicle area t clauses)
    (conditional_at network.rules place.scope place.key)
place_access network area vehicle t false place = plain_access (is_arc place.scope) place.key (plain_at network.rules place.scope place.key)

-- the access of the ruling of these keys is the access that they give
pub ruling_access : (network : NetworkModel) (vehicle : VehicleModel) (a t : ℕ) (keys : List Key)
    → option_map (λ (r : Ruling). r.access) (ruling_given network vehicle a t keys) ≡ access_given network vehicle a t keys
ruling_access network vehicle a t keys =
    let area : Area = area_at network (area_place network a) in
    last_over (λ (r : Ruling). r.access) (ruling_at network area vehicle t) (given_at network area vehicle t)
    (λ place. place_access network area vehicle t place.conditional place)
    (places_of (area_place network a) a keys)

-- whether an arc lets the vehicle in goes by the ruling
pub let_in_by : (network : NetworkModel) (vehicle : VehicleModel) (a t : ℕ) (o : Option Ruling)
    → ruling_given network vehicle a t (keys_of vehicle.class) ≡ o
    → is_let_in network vehicle a t ≡ lets_purpose_in (unwrap_or (option_map (λ (r : Ruling). r.access) o) Free) vehicle.purpose
let_in_by network vehicle a t o is =
    ap (λ (x : Option Access). lets_purpose_in (unwrap_or x Free) vehicle.purpose)
    (sym (ruling_access network vehicle a t (keys_of vehicle.class)) ∙ ap (option_map (λ (r : Ruling). r.access)) is)
