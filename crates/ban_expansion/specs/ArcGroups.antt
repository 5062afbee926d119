-- Groups of arcs that are closed at the same minutes, to every vehicle (source: own).
use Rattle.std.specs.Prelude.{◌≡◌, ℕ, ◌+◌, ◌≤◌, Some, List, length, slice_get, All}
use Rattle.route_base.specs.declared.types.ArcId.{ArcId}
use Rattle.vehicle_classes.specs.VehicleModel.{VehicleModel}
use Rattle.network_tables.specs.Access.{is_closed}
use Rattle.network_tables.specs.NetworkModel.{NetworkModel}

-- for each arc its group from 0, and for each group its first arc
pub record GroupsModel : Type 0 where
  pub groups : List ℕ
  pub firsts : List ArcId

-- an arc of the network
abbrev pub IsArc : NetworkModel → ArcId → Type 0
IsArc network a = (1 ≤ a.0) × (a.0 ≤ length network.graph.arcs)

-- the group has a first arc, and the arc is closed to each vehicle at exactly the minutes at which that one is
pub record IsInGroup (network : NetworkModel) (firsts : List ArcId) (a group : ℕ) : Type 0 where
  pub first : ArcId
  pub there : slice_get firsts group ≡ Some first
  pub alike : (vehicle : VehicleModel) (t : ℕ) → is_closed network vehicle a t ≡ is_closed network vehicle first.0 t

-- each of the first `count` arcs is in its group; there are no more groups than these arcs, and first arcs are arcs of the network
pub record AreGroupsOf (network : NetworkModel) (count : ℕ) (all : GroupsModel) : Type 0 where
  pub counted : length all.groups ≡ count
  pub few : length all.firsts ≤ count
  pub arcs : All (IsArc network) all.firsts
  pub each : (k group : ℕ) → slice_get all.groups k ≡ Some group → IsInGroup network all.firsts (k + 1) group

-- all arcs of the network are in groups
abbrev pub AreGroups : NetworkModel → GroupsModel → Type 0
AreGroups network all = AreGroupsOf network (length network.graph.arcs) all
