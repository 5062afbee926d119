-- The keys of a class at their places.
use Rattle.std.proofs.Common.{◌≡◌, ℕ, Option, slice_get, ap, sym, ◌∙◌}
use Rattle.vehicle_classes.specs.Classes.{keys_of}
use Rattle.vehicle_classes.specs.declared.classes.Class.{Class}
use Rattle.vehicle_classes.specs.declared.classes.Key.{Key}

-- the key that is found at a place of a class's keys
pub key_there : {class held : Class} {found : Option Key} (k : ℕ) (key : Option Key) → held ≡ class → found ≡ slice_get (keys_of held) k → found ≡ key
    → slice_get (keys_of class) k ≡ key
key_there k key same is found = ap (λ (c : Class). slice_get (keys_of c) k) (sym same) ∙ sym is ∙ found
