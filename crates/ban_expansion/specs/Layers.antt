-- Layers of minutes, from the general to the special (source: own).
use Rattle.std.specs.Prelude.{ℕ, Bool, false, Option, Some, None, List, [], ◌∷◌, ◌++◌, if◌then◌else◌, unwrap_or}
use Rattle.std.specs.List.{list_all}
use Rattle.route_base.specs.Runs.{any_has}
use Rattle.route_base.specs.declared.types.Run.{Run}
use Rattle.conditional_rules.specs.Decisions.{last_given}
use Rattle.ban_expansion.specs.declared.layers.Layer.{Layer}

-- a layer says whether it bars at a minute that it has, and nothing at any other
abbrev pub layer_at : ℕ → Layer → Option Bool
layer_at t l = if any_has l.minutes t then Some l.bars else None

-- the last layer that has the minute bars
abbrev pub is_barred : List Layer → ℕ → Bool
is_barred layers t = unwrap_or (last_given (layer_at t) layers) false

-- each of the sets has the minute
abbrev pub all_have : List (List Run) → ℕ → Bool
all_have sets t = list_all (λ s. any_has s t) sets

-- the parts of all places, one after another
abbrev pub all_parts : {P Q : Type 0} → (P → List Q) → List P → List Q
all_parts parts [] = []
all_parts parts (p ∷ ps) = parts p ++ all_parts parts ps
