-- vehicles.csv: vehicles by name (source: own).
use Rattle.std.specs.Prelude.{ℕ, ◌==◌, ◌||◌, not, nat_lt, Bool, false, is_some, Option, Some, None, List, [], ◌∷◌, length}
use Rattle.std.specs.Prelude.{codes, bytes_eq, filter, slice_index, if◌then◌else◌}
use Rattle.std.specs.List.{filter_map, list_all, slice_split}
use Rattle.std.specs.Option.{option_map, option_and_then}
use Rattle.route_base.specs.Forms.{is_from_to, is_blank, is_name, at_most, table_number_of}
use Rattle.route_base.specs.declared.faults.Cause.{Cause}
use Rattle.route_base.specs.declared.faults.Cause.TheVariants.{BadField, Duplicate}
use Rattle.route_base.specs.declared.limits.TheConstants.{LARGEST_SIZE, MOST_VEHICLES}
use Rattle.table_reader.specs.Schema.{Schema}
use Rattle.table_reader.specs.NameIndex.{value_under}
use Rattle.table_reader.specs.Records.{Record}
use Rattle.vehicle_classes.specs.declared.classes.Class.{Class}
use Rattle.vehicle_classes.specs.declared.classes.Class.TheVariants.{Hgv, HgvArticulated, Goods, Bus}
use Rattle.vehicle_classes.specs.declared.classes.Purpose.{Purpose}
use Rattle.vehicle_classes.specs.declared.classes.Purpose.TheVariants.{Through, Delivery}
use Rattle.vehicle_classes.specs.declared.vehicle.Sizes.{Sizes}
use Rattle.vehicle_classes.specs.VehicleModel.{VehicleModel, any_vehicle}
use Rattle.vehicle_classes.specs.VehicleParts.{vehicle_with}

-- a vehicle and its name
abbrev pub VehicleEntry : Type 0
VehicleEntry = List ℕ × VehicleModel

-- the class that a word names
abbrev pub class_of : List ℕ → Option Class
class_of word =
    if bytes_eq word (codes "hgv") then Some Hgv
    else if bytes_eq word (codes "hgv_articulated") then Some HgvArticulated
    else if bytes_eq word (codes "goods") then Some Goods
    else if bytes_eq word (codes "bus") then Some Bus
    else None

-- the purpose that a word names; without a word it is to pass through
abbrev pub purpose_of : List ℕ → Option Purpose
purpose_of [] = Some Through
purpose_of (b ∷ bs) =
    if bytes_eq (b ∷ bs) (codes "through") then Some Through
    else if bytes_eq (b ∷ bs) (codes "delivery") then Some Delivery
    else None

-- a size that isn't too large, or none in an empty field
abbrev pub size_in : List ℕ → Option (Option ℕ)
size_in [] = Some None
size_in (b ∷ bs) = option_map Some (at_most LARGEST_SIZE (table_number_of (b ∷ bs)))

-- the sizes that six fields give
abbrev pub sizes_of_fields : List ℕ → List ℕ → List ℕ → List ℕ → List ℕ → List ℕ → Option Sizes
sizes_of_fields weight axleload height width long axles =
    option_and_then (λ weight. option_and_then (λ axleload. option_and_then (λ height.
    option_and_then (λ width. option_and_then (λ long. option_map (λ axles. record {
      weight_kg = weight;
      axleload_kg = axleload;
      height_cm = height;
      width_cm = width;
      length_cm = long;
      axles = axles;
    }) (size_in axles)) (size_in long)) (size_in width)) (size_in height)) (size_in axleload)) (size_in weight)

-- whether the byte may stand in the word of a flag: a lower-case letter or `_`
abbrev pub is_flag_byte : ℕ → Bool
is_flag_byte b = is_from_to 97 122 b || b == 95

-- whether a blank stands first or last
abbrev pub has_blank_end : List ℕ → Bool
has_blank_end [] = false
has_blank_end (b ∷ bs) = is_blank b || is_blank (slice_index (b ∷ bs) (length bs))

-- the words between blanks
abbrev pub words_in : List ℕ → List (List ℕ)
words_in field = filter (λ word. nat_lt 0 (length word)) (slice_split is_blank field)

-- the words of flags, with one or more blanks between them
abbrev pub flags_of : List ℕ → Option (List (List ℕ))
flags_of field =
    if has_blank_end field || not (list_all (λ b. is_flag_byte b || is_blank b) field) then None else Some (words_in field)

-- a name, a class, six sizes, a purpose and flags
abbrev pub vehicle_of : Record → Option VehicleEntry
vehicle_of (name ∷ class ∷ weight ∷ axleload ∷ height ∷ width ∷ long ∷ axles ∷ purpose ∷ flags ∷ []) =
    if is_name name
    then option_and_then (λ class. option_and_then (λ sizes. option_and_then (λ purpose. option_map
    (λ flags. (name, vehicle_with class purpose sizes flags))
    (flags_of flags)) (purpose_of purpose)) (sizes_of_fields weight axleload height width long axles)) (class_of class)
    else None
vehicle_of others = None

-- `any` and the vehicles of these rows, in their order
abbrev pub vehicles_in : List Record → List VehicleEntry
vehicles_in rows = (codes "any", any_vehicle) ∷ filter_map vehicle_of rows

-- the name has no vehicle yet
abbrev pub cause_of_vehicle : List VehicleEntry → Option VehicleEntry → Option Cause
cause_of_vehicle before None = Some BadField
cause_of_vehicle before (Some v) = if is_some (value_under before v.0) then Some Duplicate else None

-- a name, a class, six sizes, a purpose and flags
abbrev pub vehicles_schema : Schema
vehicles_schema = record {
  headers = (codes "name" ∷ codes "class" ∷ codes "weight_kg" ∷ codes "axleload_kg" ∷ codes "height_cm" ∷ codes "width_cm"
      ∷ codes "length_cm" ∷ codes "axles" ∷ codes "purpose" ∷ codes "flags" ∷ []) ∷ [];
  limit = MOST_VEHICLES;
  cause = λ header before row. cause_of_vehicle (vehicles_in before) (vehicle_of row);
}
