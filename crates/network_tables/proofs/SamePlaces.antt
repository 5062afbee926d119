-- The code compares places as the definitions do.
use Rattle.std.proofs.Common.{◌≡◌, Bool, true, false, ◌&&◌, List, refl, ◌∙◌}
use Rattle.std.specs.Map.{lookup}
use mathlib.Core.Bool.{beq}
use Rattle.vehicle_classes.specs.declared.classes.Key.{Key}
use Rattle.vehicle_classes.specs.declared.classes.Key.TheVariants as keys
use Rattle.vehicle_classes.specs.contracts.classes.KeyPartialEq.TheImpl as code_key
use Rattle.network_tables.specs.Rules.{Rule, is_at, is_same_key, is_same_scope, is_same_kind, rule_value_at}
use Rattle.network_tables.specs.contracts.rules.place.RulePlacePartialEq.TheImpl as code_place
use Rattle.network_tables.specs.contracts.rules.place.ScopePartialEq.TheImpl as code_scope
use Rattle.network_tables.specs.declared.rules.place.Scope.{Scope}
use Rattle.network_tables.specs.declared.rules.place.Scope.TheVariants as scopes
use Rattle.network_tables.specs.declared.rules.place.RulePlace.{RulePlace}

same_scope : (scope other : Scope) → (code_scope.ghosts).eq scope other ≡ is_same_scope scope other
same_scope (scopes.Area place) (scopes.Area other) = refl
same_scope (scopes.Area place) (scopes.Arc other) = refl
same_scope (scopes.Arc number) (scopes.Area other) = refl
same_scope (scopes.Arc number) (scopes.Arc other) = refl

-- all keys, one after another
of_keys : (P : Key → Type 0) → P keys.Access → P keys.Vehicle → P keys.MotorVehicle → P keys.Hgv → P keys.HgvArticulated → P keys.Goods
    → P keys.Bus → (key : Key) → P key
of_keys P access vehicle motor_vehicle hgv hgv_articulated goods bus key = elim key as P [
  | keys.Access ↦ access
  | keys.Vehicle ↦ vehicle
  | keys.MotorVehicle ↦ motor_vehicle
  | keys.Hgv ↦ hgv
  | keys.HgvArticulated ↦ hgv_articulated
  | keys.Goods ↦ goods
  | keys.Bus ↦ bus
]

abbrev agrees : Key → Key → Type 0
agrees key other = (code_key.ghosts).eq key other ≡ is_same_key key other

same_key : (key other : Key) → agrees key other
same_key keys.Access = of_keys (agrees keys.Access) refl refl refl refl refl refl refl
same_key keys.Vehicle = of_keys (agrees keys.Vehicle) refl refl refl refl refl refl refl
same_key keys.MotorVehicle = of_keys (agrees keys.MotorVehicle) refl refl refl refl refl refl refl
same_key keys.Hgv = of_keys (agrees keys.Hgv) refl refl refl refl refl refl refl
same_key keys.HgvArticulated = of_keys (agrees keys.HgvArticulated) refl refl refl refl refl refl refl
same_key keys.Goods = of_keys (agrees keys.Goods) refl refl refl refl refl refl refl
same_key keys.Bus = of_keys (agrees keys.Bus) refl refl refl refl refl refl refl

same_kind : (conditional other : Bool) → beq conditional other ≡ is_same_kind conditional other
same_kind true true = refl
same_kind true false = refl
same_kind false true = refl
same_kind false false = refl

and_assoc : (a b c : Bool) → (a && (b && c)) ≡ (a && b && c)
and_assoc true b c = refl
and_assoc false b c = refl

same_place : (place other : RulePlace) → (code_place.ghosts).eq place other ≡ is_at place other
same_place place other =
    (λ i. same_scope place.scope other.scope i && (same_key place.key other.key i && same_kind place.conditional other.conditional i))
    ∙ and_assoc (is_same_scope place.scope other.scope) (is_same_key place.key other.key) (is_same_kind place.conditional other.conditional)

-- what the code finds at a place
pub code_value : (rules : List Rule) (place : RulePlace) → lookup ((code_place.ghosts).eq place) rules ≡ rule_value_at rules place
code_value rules place = λ i. lookup (λ other. same_place place other i) rules
