-- Groups of arcs as the trips of a batch keep them: a proposition (source: own).
use Rattle.std.specs.Prelude.{◌≡◌, ℕ, ◌+◌, ◌<◌, ◌≤◌, Some, length, slice_get, All}
use Rattle.route_base.specs.declared.types.ArcId.{ArcId}
use Rattle.vehicle_classes.specs.VehicleModel.{VehicleModel}
use Rattle.network_tables.specs.Access.{is_closed}
use Rattle.network_tables.specs.NetworkModel.{NetworkModel}
use Rattle.ban_expansion.specs.ArcGroups.{GroupsModel, IsArc}

-- each arc has a group with a first arc, and is closed to each vehicle at exactly the minutes at which that one is
pub record KeepsGroups (network : NetworkModel) (all : GroupsModel) : Type 0 where
  pub counted : length all.groups ≡ length network.graph.arcs
  pub few : length all.firsts ≤ length network.graph.arcs
  pub arcs : All (IsArc network) all.firsts
  pub within : (k group : ℕ) → slice_get all.groups k ≡ Some group → group < length all.firsts
  pub alike : (k group : ℕ) (first : ArcId) → slice_get all.groups k ≡ Some group → slice_get all.firsts group ≡ Some first
      → (vehicle : VehicleModel) (t : ℕ) → is_closed network vehicle (k + 1) t ≡ is_closed network vehicle first.0 t
