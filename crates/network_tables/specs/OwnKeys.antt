-- The keys for which arcs have rules of their own, as rules are held (source: own).
use Rattle.std.specs.Prelude.{◌≡◌, ◌<◌, ℕ, ⊤, Bool, false, List, length, slice_index_or}
use Rattle.vehicle_classes.specs.declared.classes.Key.{Key}
use Rattle.vehicle_classes.specs.declared.classes.Key.TheVariants as keys
use Rattle.network_tables.specs.Rules.{Rule, has_arc_rules, has_own_rule}
use Rattle.network_tables.specs.declared.rules.own_keys.OwnKeys.{OwnKeys}
use Rattle.network_tables.specs.declared.rules.place.Scope.{Scope}
use Rattle.network_tables.specs.declared.rules.place.Scope.TheVariants as scopes

-- whether a key is one of these
abbrev pub has_key : OwnKeys → Key → Bool
has_key own keys.Access = own.access
has_key own keys.Vehicle = own.vehicle
has_key own keys.MotorVehicle = own.motor_vehicle
has_key own keys.Hgv = own.hgv
has_key own keys.HgvArticulated = own.hgv_articulated
has_key own keys.Goods = own.goods
has_key own keys.Bus = own.bus

abbrev pub no_keys : OwnKeys
no_keys = record {
  access = false;
  vehicle = false;
  motor_vehicle = false;
  hgv = false;
  hgv_articulated = false;
  goods = false;
  bus = false;
}

-- the keys of the arc of this number, and none behind the end
abbrev pub keys_at : List OwnKeys → ℕ → OwnKeys
keys_at own a = slice_index_or own a no_keys

-- there are keys of the arc, where the scope is one
abbrev pub HasRoom : List OwnKeys → Scope → Type 0
HasRoom own (scopes.Area place) = ⊤
HasRoom own (scopes.Arc number) = number < length own

-- they are the keys for which arcs have rules of their own
abbrev pub AreOwnKeys : List OwnKeys → List Rule → Type 0
AreOwnKeys own rules = (a : ℕ) (key : Key) → has_key (keys_at own a) key ≡ has_own_rule rules a key

-- what is known of arcs: whether some have rules of their own, and for which keys
pub record KnowsArcs (of_arcs : Bool) (own : List OwnKeys) (rules : List Rule) : Type 0 where
  pub some : of_arcs ≡ has_arc_rules rules
  pub each : AreOwnKeys own rules
