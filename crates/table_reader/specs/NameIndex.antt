-- Values by name, as a list of pairs of a name and a value (source: own).
use Rattle.std.specs.Prelude.{ℕ, Option, List, map, position}
use Rattle.std.specs.Map.{lookup}
use Rattle.std.specs.Str.{bytes_eq}

-- the value of the first pair with this name
abbrev pub value_under : {V : Type 0} → List (List ℕ × V) → List ℕ → Option V
value_under entries name = lookup (bytes_eq name) entries

-- the names in their order
abbrev pub names_of : {V : Type 0} → List (List ℕ × V) → List (List ℕ)
names_of entries = map (λ e. e.0) entries

-- the place from 0 of a name
abbrev pub place_among : List (List ℕ) → List ℕ → Option ℕ
place_among names name = position (bytes_eq name) names
