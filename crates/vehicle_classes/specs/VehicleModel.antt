-- Vehicles: class, purpose, sizes and flags (source: own).
use Rattle.std.specs.Prelude.{ℕ, ◌≤◌, Bool, Option, None, List, [], IfSome}
use Rattle.std.specs.List.{list_any}
use Rattle.std.specs.Str.{bytes_eq}
use Rattle.route_base.specs.declared.limits.TheConstants.{LARGEST_SIZE}
use Rattle.vehicle_classes.specs.declared.classes.Class.{Class}
use Rattle.vehicle_classes.specs.declared.classes.Class.TheVariants.{Hgv}
use Rattle.vehicle_classes.specs.declared.classes.Purpose.{Purpose}
use Rattle.vehicle_classes.specs.declared.classes.Purpose.TheVariants.{Through}
use Rattle.vehicle_classes.specs.declared.classes.Quantity.{Quantity}
use Rattle.vehicle_classes.specs.declared.classes.Quantity.TheVariants as quantity

-- each size where it is known, and the words that the vehicle is flagged with
pub record VehicleModel : Type 0 where
  pub class : Class
  pub purpose : Purpose
  pub weight_kg : Option ℕ
  pub axleload_kg : Option ℕ
  pub height_cm : Option ℕ
  pub width_cm : Option ℕ
  pub length_cm : Option ℕ
  pub axles : Option ℕ
  pub flags : List (List ℕ)

-- the size of this quantity, where it is known
abbrev pub size_of : VehicleModel → Quantity → Option ℕ
size_of v quantity.Weight = v.weight_kg
size_of v quantity.Axleload = v.axleload_kg
size_of v quantity.Height = v.height_cm
size_of v quantity.Width = v.width_cm
size_of v quantity.Length = v.length_cm
size_of v quantity.Axles = v.axles

-- a size isn't too large
abbrev pub IsSmall : Option ℕ → Type 0
IsSmall o = IfSome o (λ n. n ≤ LARGEST_SIZE)

-- whether the vehicle is flagged with this word
abbrev pub has_flag : VehicleModel → List ℕ → Bool
has_flag v word = list_any (bytes_eq word) v.flags

-- the vehicle of which only the class is known
abbrev pub any_vehicle : VehicleModel
any_vehicle = record {
  class = Hgv;
  purpose = Through;
  weight_kg = None;
  axleload_kg = None;
  height_cm = None;
  width_cm = None;
  length_cm = None;
  axles = None;
  flags = [];
}
