-- How vehicles are held (source: own).
use Rattle.std.specs.Prelude.{◌≡◌, ℕ, List, map}
use Rattle.table_reader.specs.NameIndex.{names_of}
use Rattle.vehicle_classes.specs.declared.classes.Class.{Class}
use Rattle.vehicle_classes.specs.declared.classes.Purpose.{Purpose}
use Rattle.vehicle_classes.specs.declared.vehicle.Sizes.{Sizes}
use Rattle.vehicle_classes.specs.VehicleModel.{VehicleModel, IsSmall}

-- the vehicle that has these sizes
abbrev pub vehicle_with : Class → Purpose → Sizes → List (List ℕ) → VehicleModel
vehicle_with class purpose sizes flags = record {
  class = class;
  purpose = purpose;
  weight_kg = sizes.weight_kg;
  axleload_kg = sizes.axleload_kg;
  height_cm = sizes.height_cm;
  width_cm = sizes.width_cm;
  length_cm = sizes.length_cm;
  axles = sizes.axles;
  flags = flags;
}

-- no size is too large
abbrev pub AreSmall : Sizes → Type 0
AreSmall sizes = IsSmall sizes.weight_kg × IsSmall sizes.axleload_kg × IsSmall sizes.height_cm × IsSmall sizes.width_cm
    × IsSmall sizes.length_cm × IsSmall sizes.axles

-- names, and a vehicle for each
pub record NamedVehicles : Type 0 where
  pub names : List (List ℕ)
  pub vehicles : List VehicleModel

-- they are the names and the vehicles of these pairs
pub record HoldVehicles (held : NamedVehicles) (pairs : List (List ℕ × VehicleModel)) : Type 0 where
  pub names : held.names ≡ names_of pairs
  pub vehicles : held.vehicles ≡ map (λ p. p.1) pairs
