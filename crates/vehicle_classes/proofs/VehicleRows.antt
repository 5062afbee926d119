-- A row of the table, field by field, and the vehicles after one row more.
use Rattle.std.proofs.Common.{◌≡◌, ℕ, ◌||◌, Bool, cond, Some, None, List, [], ◌∷◌, ◌++◌, map, refl, sym, ◌∙◌, ap}
use Rattle.std.specs.Prelude.{codes}
use Rattle.std.specs.List.{list_any, zip}
use Rattle.std.specs.Option.{is_some}
use Rattle.std.specs.Str.{bytes_eq}
use Rattle.std.proofs.lemmas.List.{map-append}
use Rattle.std.proofs.lemmas.Map.Made.{is_some-lookup}
use Rattle.route_base.specs.declared.faults.Cause.TheVariants.{Duplicate}
use Rattle.table_reader.specs.NameIndex.{names_of, value_under}
use Rattle.table_reader.specs.Records.{Record}
use Rattle.table_reader.proofs.Lists.{filter_map-push}
use Rattle.vehicle_classes.specs.VehicleModel.{VehicleModel, any_vehicle}
use Rattle.vehicle_classes.specs.VehicleParts.{NamedVehicles, HoldVehicles}
use Rattle.vehicle_classes.specs.Vehicles.{VehicleEntry, vehicle_of, vehicles_in, cause_of_vehicle}
use Rattle.vehicle_classes.proofs.Named.{zip_parts}

-- whether one passes, in elements that are seen through a function
pub any_seen : {X Y : Type 0} (f : X → Y) (p : Y → Bool) (xs : List X) → list_any p (map f xs) ≡ list_any (λ x. p (f x)) xs
any_seen f p [] = refl
any_seen f p (x ∷ xs) = ap (λ (b : Bool). p (f x) || b) (any_seen f p xs)

-- what a row more gives
pub vehicles_push : (before : List Record) (row : Record) (v : VehicleEntry) → vehicle_of row ≡ Some v
    → vehicles_in before ++ v ∷ [] ≡ vehicles_in (before ++ row ∷ [])
vehicles_push before row v e = ap (λ (vs : List VehicleEntry). (codes "any", any_vehicle) ∷ vs) (sym (filter_map-push vehicle_of before row v e))

module _ (held : NamedVehicles) (pairs : List VehicleEntry) (hold : HoldVehicles held pairs) where
  -- why a row can't follow
  pub cause_held : {V : Type 0} (names : List (List ℕ × V)) (v : VehicleEntry) (b : Bool) → names_of names ≡ held.names
      → is_some (value_under names v.0) ≡ b → cause_of_vehicle pairs (Some v) ≡ cond b (Some Duplicate) None
  cause_held names v b is taken =
      let same : is_some (value_under pairs v.0) ≡ b =
      is_some-lookup (bytes_eq v.0) pairs ∙ ap (λ (ns : List (List ℕ)). list_any (bytes_eq v.0) ns) (sym (is ∙ hold.names))
      ∙ sym (is_some-lookup (bytes_eq v.0) names) ∙ taken in
      rw same refl

  -- with a name and a vehicle more
  pub hold_more : {V : Type 0} (names after : List (List ℕ × V)) (now : List VehicleModel) (v : VehicleEntry) (u : V) → names_of names ≡ held.names
      → after ≡ names ++ (v.0, u) ∷ [] → now ≡ held.vehicles ++ v.1 ∷ [] → HoldVehicles (record { names = names_of after; vehicles = now }) (pairs ++ v ∷ [])
  hold_more {V} names after now v u is more added = record {
    names =
        ap (λ (es : List (List ℕ × V)). names_of es) more ∙ map-append (λ (e : List ℕ × V). e.0) names ((v.0, u) ∷ [])
        ∙ ap (λ (ns : List (List ℕ)). ns ++ v.0 ∷ []) (is ∙ hold.names) ∙ sym (map-append (λ (p : VehicleEntry). p.0) pairs (v ∷ []));
    vehicles =
        added ∙ ap (λ (vs : List VehicleModel). vs ++ v.1 ∷ []) hold.vehicles
        ∙ sym (map-append (λ (p : VehicleEntry). p.1) pairs (v ∷ []));
  }

  -- the names beside the vehicles
  pub zipped : zip held.names held.vehicles ≡ pairs
  zipped =
      ap (λ (ns : List (List ℕ)). zip ns held.vehicles) hold.names ∙ ap (λ (vs : List VehicleModel). zip (names_of pairs) vs) hold.vehicles
      ∙ zip_parts pairs
