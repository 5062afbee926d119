-- The vehicle at the place of a name is the vehicle of this name.
use Rattle.std.proofs.Common.{◌≡◌, ℕ, zero, suc, Bool, true, false, cond, Option, Some, None, List, [], ◌∷◌, map, sym, ◌∙◌, ap, subst, refl}
use Rattle.std.specs.Prelude.{slice_get, unwrap_or, bytes_eq}
use Rattle.std.specs.Option.{option_map}
use Rattle.table_reader.specs.NameIndex.{names_of, place_among, value_under}
use Rattle.table_reader.proofs.Lists.{position-cons}
use Rattle.vehicle_classes.specs.VehicleModel.{VehicleModel, any_vehicle}
use Rattle.vehicle_classes.specs.Vehicles.{VehicleEntry}

module _ (e : VehicleEntry) (vs : List VehicleEntry) (name : List ℕ) (v : VehicleModel) where
  -- by whether the first name is this one, and the place among the others
  step : (b : Bool) (rest : Option ℕ) (i : ℕ) → cond b (Some 0) (option_map suc rest) ≡ Some i
      → slice_get (map (λ (x : VehicleEntry). x.1) (e ∷ vs)) i ≡ Some v
      → ((j : ℕ) → rest ≡ Some j → slice_get (map (λ (x : VehicleEntry). x.1) vs) j ≡ Some v → value_under vs name ≡ Some v)
      → cond b (Some e.1) (value_under vs name) ≡ Some v
  step true rest zero h is more = is
  step true rest (suc i) h is more = absurd (cc)
  step false None i h is more = absurd (cc)
  step false (Some j) i h is more =
      let same : i ≡ suc j = sym (ap (λ (o : Option ℕ). unwrap_or o 0) h) in
      more j refl (subst (λ (n : ℕ). slice_get (map (λ (x : VehicleEntry). x.1) (e ∷ vs)) n ≡ Some v) same is)

-- the value at the place of a name is the value of the name
value_there : (vs : List VehicleEntry) (name : List ℕ) (i : ℕ) (v : VehicleModel) → place_among (names_of vs) name ≡ Some i
    → slice_get (map (λ (x : VehicleEntry). x.1) vs) i ≡ Some v → value_under vs name ≡ Some v
value_there [] name i v at is = absurd (cc)
value_there (e ∷ vs) name i v at is =
    step e vs name v (bytes_eq name e.0) (place_among (names_of vs) name) i (sym (position-cons (bytes_eq name) e.0 (names_of vs)) ∙ at) is
    (λ j found there. value_there vs name j v found there)

pub vehicle_there : (vs : List VehicleEntry) (name : List ℕ) (i : ℕ) (v : VehicleModel) → place_among (names_of vs) name ≡ Some i
    → slice_get (map (λ (x : VehicleEntry). x.1) vs) i ≡ Some v → v ≡ unwrap_or (value_under vs name) any_vehicle
vehicle_there vs name i v at is = sym (ap (λ (o : Option VehicleModel). unwrap_or o any_vehicle) (value_there vs name i v at is))
