-- All keys of rules, and the words by which a table of rules names them (source: OpenStreetMap wiki, access keys).
use Rattle.std.specs.Prelude.{Option, List, [], ◌∷◌, ℕ, codes}
use Rattle.std.specs.List.{find}
use Rattle.std.specs.Str.{bytes_eq}
use Rattle.vehicle_classes.specs.declared.classes.Key.{Key}
use Rattle.vehicle_classes.specs.declared.classes.Key.TheVariants as keys

-- all keys, from general to special
abbrev pub every_key : List Key
every_key = keys.Access ∷ keys.Vehicle ∷ keys.MotorVehicle ∷ keys.Hgv ∷ keys.HgvArticulated ∷ keys.Goods ∷ keys.Bus ∷ []

-- the word of a key
abbrev pub key_label_of : Key → List ℕ
key_label_of keys.Access = codes "access"
key_label_of keys.Vehicle = codes "vehicle"
key_label_of keys.MotorVehicle = codes "motor_vehicle"
key_label_of keys.Hgv = codes "hgv"
key_label_of keys.HgvArticulated = codes "hgv_articulated"
key_label_of keys.Goods = codes "goods"
key_label_of keys.Bus = codes "bus"

-- the key of a word
unfoldable pub key_of : List ℕ → Option Key
key_of word = find (λ key. bytes_eq word (key_label_of key)) every_key
