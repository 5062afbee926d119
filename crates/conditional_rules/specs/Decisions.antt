-- The clause of a conditional value that decides (source: OpenStreetMap wiki, conditional restrictions).
use Rattle.std.specs.Prelude.{ℕ, suc, ◌==◌, nat_lt, nat_le, Bool, false, Option, Some, None, List, [], ◌∷◌, if◌then◌else◌}
use Rattle.std.specs.List.{list_all}
use Rattle.std.specs.Option.{option_or, option_map}
use Rattle.opening_hours.specs.Coverage.{is_covered}
use Rattle.opening_hours.specs.Holidays.{HolidayLists}
use Rattle.vehicle_classes.specs.VehicleModel.{VehicleModel, size_of, has_flag}
use Rattle.conditional_rules.specs.declared.access.Access.{Access}
use Rattle.conditional_rules.specs.declared.conditional.Clause.{Clause}
use Rattle.conditional_rules.specs.declared.conditional.Comparison.{Comparison}
use Rattle.conditional_rules.specs.declared.conditional.Comparison.TheVariants.{Below, AtMost, Above, AtLeast, Equal}
use Rattle.conditional_rules.specs.declared.conditional.Part.{Part}
use Rattle.conditional_rules.specs.declared.conditional.Part.TheVariants.{Compare, Flag, Times}

-- whether the size compares so with the value
abbrev pub compares : Comparison → ℕ → ℕ → Bool
compares Below size value = nat_lt size value
compares AtMost size value = nat_le size value
compares Above size value = nat_lt value size
compares AtLeast size value = nat_le value size
compares Equal size value = size == value

-- a size that isn't known compares with no value
abbrev pub size_holds : Comparison → Option ℕ → ℕ → Bool
size_holds comparison None value = false
size_holds comparison (Some size) value = compares comparison size value

-- whether a part holds for the vehicle at this minute of this day
abbrev pub part_holds : VehicleModel → HolidayLists → ℕ → ℕ → Part → Bool
part_holds vehicle holidays day minute (Compare quantity comparison value) =
    size_holds comparison (size_of vehicle quantity) value
part_holds vehicle holidays day minute (Flag word) = has_flag vehicle word
part_holds vehicle holidays day minute (Times rules) = is_covered rules holidays day minute

-- a clause holds where each of its parts does
abbrev pub clause_holds : VehicleModel → HolidayLists → ℕ → ℕ → Clause → Bool
clause_holds vehicle holidays day minute clause = list_all (part_holds vehicle holidays day minute) clause.parts

-- the value of the last element that gives one
abbrev pub last_given : {P A : Type 0} → (P → Option A) → List P → Option A
last_given f [] = None
last_given f (x ∷ xs) = option_or (last_given f xs) (f x)

-- the access of the last clause that holds
abbrev pub decision : VehicleModel → HolidayLists → ℕ → ℕ → List Clause → Option Access
decision vehicle holidays day minute clauses =
    last_given (λ clause. if clause_holds vehicle holidays day minute clause then Some clause.access else None) clauses

-- the place, from 0, of the last element that passes the test
abbrev pub last_place : {P : Type 0} → (P → Bool) → List P → Option ℕ
last_place p [] = None
last_place p (x ∷ xs) = option_or (option_map (λ i. suc i) (last_place p xs)) (if p x then Some 0 else None)

-- the place, from 0, of the last clause that holds
abbrev pub deciding_place : VehicleModel → HolidayLists → ℕ → ℕ → List Clause → Option ℕ
deciding_place vehicle holidays day minute clauses = last_place (clause_holds vehicle holidays day minute) clauses
