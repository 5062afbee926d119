-- Arcs that are grouped so far, and those that have nothing of their own (source: own).
use Rattle.std.specs.Prelude.{◌≡◌, ◌<◌, ℕ, ◌||◌, nat_lt, Bool, false, Option, Some}
use Rattle.std.specs.Prelude.{List, [], ◌∷◌, ◌++◌, length, slice_get, slice_set}
use Rattle.route_base.specs.declared.types.ArcId.{ArcId}
use Rattle.dimacs_reader.specs.GraphModel.{IsGoodGraph}
use Rattle.vehicle_classes.specs.declared.classes.Key.{Key}
use Rattle.network_tables.specs.Access.{area_place}
use Rattle.network_tables.specs.NetworkModel.{NetworkModel, closures_of}
use Rattle.network_tables.specs.Rules.{plain_at, conditional_at, has_own_rules}
use Rattle.network_tables.specs.declared.rules.place.Scope.TheVariants as scopes
use Rattle.ban_expansion.specs.ArcGroups.{GroupsModel, IsInGroup, AreGroupsOf}

-- whether the arc has closures, or a rule of its own for any key
abbrev pub has_own : NetworkModel → ℕ → Bool
has_own network a = nat_lt 0 (length (closures_of network a)) || has_own_rules network.rules a

-- two arcs have the same rules of their own for the key
pub record HaveSameRules (network : NetworkModel) (a b : ℕ) (key : Key) : Type 0 where
  pub plain : plain_at network.rules (scopes.Arc a) key ≡ plain_at network.rules (scopes.Arc b) key
  pub conditional : conditional_at network.rules (scopes.Arc a) key ≡ conditional_at network.rules (scopes.Arc b) key

-- two arcs of one area that have the same closures, and the same rules of their own
pub record AreAlike (network : NetworkModel) (a b : ℕ) : Type 0 where
  pub area : area_place network a ≡ area_place network b
  pub closures : closures_of network a ≡ closures_of network b
  pub plain : (key : Key) → plain_at network.rules (scopes.Arc a) key ≡ plain_at network.rules (scopes.Arc b) key
  pub conditional : (key : Key) → conditional_at network.rules (scopes.Arc a) key ≡ conditional_at network.rules (scopes.Arc b) key

-- groups so far, and for each area the group of its arcs that have nothing of their own, if there is one yet
pub record GroupingModel : Type 0 where
  pub all : GroupsModel
  pub shared : List (Option ℕ)

-- groups once an arc begins a group, and once an arc joins one
abbrev pub begun : GroupsModel → ArcId → GroupsModel
begun all a = record { groups = all.groups ++ length all.firsts ∷ []; firsts = all.firsts ++ a ∷ [] }

abbrev pub group_joined : GroupsModel → ℕ → GroupsModel
group_joined all group = record { groups = all.groups ++ group ∷ []; firsts = all.firsts }

-- the grouping once an arc begins a group that this area then shares
abbrev pub begun_shared : GroupingModel → ArcId → ℕ → GroupingModel
begun_shared grouping a area = record {
  all = begun grouping.all a;
  shared = slice_set grouping.shared area (Some (length grouping.all.firsts));
}

-- an arc that has nothing of its own is in the group that its area shares, if there is one
pub record AreShared (network : NetworkModel) (firsts : List ArcId) (shared : List (Option ℕ)) : Type 0 where
  pub areas : length shared ≡ length network.areas
  pub each : (area group a : ℕ) → slice_get shared area ≡ Some (Some group) → area_place network a ≡ area → has_own network a ≡ false
      → IsInGroup network firsts a group

-- the first `count` arcs of the network are grouped
pub record AreGrouped (network : NetworkModel) (count : ℕ) (grouping : GroupingModel) : Type 0 where
  pub groups : AreGroupsOf network count grouping.all
  pub shares : AreShared network grouping.all.firsts grouping.shared

-- the first k arcs are grouped, and there is one more
pub record IsNext (network : NetworkModel) (k : ℕ) (grouping : GroupingModel) : Type 0 where
  pub within : k < length network.graph.arcs
  pub graph : IsGoodGraph network.graph
  pub grouped : AreGrouped network k grouping
