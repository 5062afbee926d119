-- The keys of rules that each class of vehicle goes by (source: OpenStreetMap wiki, access keys; own order).
use Rattle.std.specs.Prelude.{List, [], ◌∷◌}
use Rattle.vehicle_classes.specs.declared.classes.Class.{Class}
use Rattle.vehicle_classes.specs.declared.classes.Class.TheVariants as class
use Rattle.vehicle_classes.specs.declared.classes.Key.{Key}
use Rattle.vehicle_classes.specs.declared.classes.Key.TheVariants as key

-- the keys of a class, from general to special
abbrev pub keys_of : Class → List Key
keys_of class.Hgv = key.Access ∷ key.Vehicle ∷ key.MotorVehicle ∷ key.Hgv ∷ []
keys_of class.HgvArticulated = key.Access ∷ key.Vehicle ∷ key.MotorVehicle ∷ key.Hgv ∷ key.HgvArticulated ∷ []
keys_of class.Goods = key.Access ∷ key.Vehicle ∷ key.MotorVehicle ∷ key.Goods ∷ []
keys_of class.Bus = key.Access ∷ key.Vehicle ∷ key.MotorVehicle ∷ key.Bus ∷ []
