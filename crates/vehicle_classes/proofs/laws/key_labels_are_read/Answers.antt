use Rattle.std.proofs.Common.{◌≡◌, Some, refl}
use Rattle.vehicle_classes.specs.Keys.{key_label_of, key_of}
use Rattle.vehicle_classes.specs.declared.classes.Key.{Key}
use Rattle.vehicle_classes.specs.declared.classes.Key.TheVariants as keys
use Rattle.vehicle_classes.proofs.laws.key_labels_are_read.Goals as goal

label_read : (key : Key) → key_of (key_label_of key) ≡ Some key
unfolding key_of
label_read keys.Access = refl
label_read keys.Vehicle = refl
label_read keys.MotorVehicle = refl
label_read keys.Hgv = refl
label_read keys.HgvArticulated = refl
label_read keys.Goods = refl
label_read keys.Bus = refl

pub returns : goal.returns
returns c = label_read
