-- The values of access keys, and the vehicles that they let in (source: OpenStreetMap wiki, access values).
use Rattle.std.specs.Prelude.{ℕ, Bool, true, false, Option, Some, None, List, [], ◌∷◌, codes, if◌then◌else◌}
use Rattle.std.specs.List.{list_any}
use Rattle.std.specs.Str.{bytes_eq}
use Rattle.vehicle_classes.specs.declared.classes.Purpose.{Purpose}
use Rattle.vehicle_classes.specs.declared.classes.Purpose.TheVariants as purposes
use Rattle.conditional_rules.specs.declared.access.Access.{Access}
use Rattle.conditional_rules.specs.declared.access.Access.TheVariants.{Free, Barred, Purpose as ForPurpose}

-- whether the word is one of these
abbrev pub is_among : List (List ℕ) → List ℕ → Bool
is_among words word = list_any (bytes_eq word) words

-- the values that let every vehicle in, those that let none in, and those that depend on the purpose
abbrev pub free_words : List (List ℕ)
free_words = codes "yes" ∷ codes "designated" ∷ codes "permissive" ∷ codes "discouraged" ∷ []

abbrev pub barred_words : List (List ℕ)
barred_words =
    codes "no" ∷ codes "private" ∷ codes "agricultural" ∷ codes "forestry" ∷ codes "customers" ∷ codes "permit" ∷ []

abbrev pub purpose_words : List (List ℕ)
purpose_words = codes "destination" ∷ codes "delivery" ∷ []

-- the access that a value gives
unfoldable pub access_of : List ℕ → Option Access
access_of word =
    if is_among free_words word then Some Free
    else if is_among barred_words word then Some Barred
    else if is_among purpose_words word then Some ForPurpose
    else None

-- whether a vehicle of this purpose is let in
abbrev pub lets_purpose_in : Access → Purpose → Bool
lets_purpose_in Free purpose = true
lets_purpose_in Barred purpose = false
lets_purpose_in ForPurpose purposes.Through = false
lets_purpose_in ForPurpose purposes.Delivery = true
