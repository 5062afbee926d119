-- The barred minutes of areas, as far as they are known (source: own).
use Rattle.std.specs.Prelude.{◌≡◌, ℕ, false, not, Option, Some, List, length, slice_get}
use Rattle.route_base.specs.declared.types.Run.{Run}
use Rattle.vehicle_classes.specs.VehicleModel.{VehicleModel}
use Rattle.network_tables.specs.Access.{area_place, is_let_in}
use Rattle.network_tables.specs.NetworkModel.{NetworkModel}
use Rattle.network_tables.specs.Rules.{has_own_rules}
use Rattle.ban_expansion.specs.Bans.{HasThose}

-- the arc is of the area at this place, and has no rules of its own
pub record IsPlainIn (network : NetworkModel) (area a : ℕ) : Type 0 where
  pub place : area_place network a ≡ area
  pub rules : has_own_rules network.rules a ≡ false

-- a set that is known has the minutes of the window at which arcs of its area without rules of their own don't let the vehicle in
pub record AreBarred (network : NetworkModel) (vehicle : VehicleModel) (window : Run) (sets : List (Option (List Run))) : Type 0 where
  pub areas : length sets ≡ length network.areas
  pub each : (area : ℕ) (set : List Run) (a : ℕ) → slice_get sets area ≡ Some (Some set) → IsPlainIn network area a
      → HasThose window (λ t. not (is_let_in network vehicle a t)) set
