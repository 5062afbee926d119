-- Minutes that are closed by accesses, laid over one another from general to special (source: own).
use Rattle.std.specs.Prelude.{◌≡◌, ◌≤◌, ◌*◌, ◌&&◌, ℕ, Bool, not, Option, Some, None, IsSome, List, if◌then◌else◌}
use Rattle.route_base.specs.Matching.{StandsFor}
use Rattle.route_base.specs.Runs.{any_has, has_minute}
use Rattle.route_base.specs.Setting.{Setting, Road}
use Rattle.route_base.specs.declared.limits.TheConstants.{DEAREST_MINUTE}
use Rattle.route_base.specs.declared.types.Run.{Run}
use Rattle.vehicle_classes.specs.VehicleModel.{VehicleModel}
use Rattle.vehicle_classes.specs.declared.classes.Purpose.{Purpose}
use Rattle.conditional_rules.specs.Accesses.{lets_purpose_in}
use Rattle.conditional_rules.specs.declared.access.Access.{Access}
use Rattle.network_tables.specs.Access.{is_closed}
use Rattle.network_tables.specs.NetworkModel.{NetworkModel}
use Rattle.network_tables.specs.RoadSetting.{road_setting}

-- the set has exactly those minutes of the window that pass
abbrev pub HasThose : Run → (ℕ → Bool) → List Run → Type 0
HasThose window passes set = (t : ℕ) → any_has set t ≡ (has_minute t window && passes t)

-- at exactly those minutes of the window at which its arc is closed to the vehicle, and at no minute outside it, each road is shut; and
-- waiting at each node that has a weight, where it is shut by the road setting
pub record IsShutWithin (network : NetworkModel) (vehicle : VehicleModel) (window : Run) (s : Setting) : Type 0 where
  pub roads : (a t : ℕ) → IsSome (s.road a) → s.shut a t ≡ (has_minute t window && is_closed network vehicle a t)
  pub waits : (v t : ℕ) → IsSome (s.weight v)
      → s.wait_shut v t ≡ (has_minute t window && (road_setting network vehicle).wait_shut v t)

-- no road costs more than the dearest minute for each of its minutes
abbrev pub HasNoDearMinute : Setting → Type 0
HasNoDearMinute s = (a : ℕ) (road : Road) → s.road a ≡ Some road → road.cost ≤ DEAREST_MINUTE * road.minutes

-- the setting stands for the road setting within the window, is shut at exactly the minutes of the window at which that is, and has no
-- dear minute
pub record IsNetFor (network : NetworkModel) (vehicle : VehicleModel) (window : Run) (s : Setting) : Type 0 where
  pub stands : StandsFor s (road_setting network vehicle) window
  pub exact : IsShutWithin network vehicle window s
  pub cheap : HasNoDearMinute s

-- whether a trip of this purpose is barred once an access is given, where it was barred before or not
abbrev pub barred_by : Purpose → Option Access → Bool → Bool
barred_by purpose None before = before
barred_by purpose (Some access) before = not (lets_purpose_in access purpose)

-- what is given within the window; nothing is given outside it
abbrev pub given_within : Run → ℕ → Option Access → Option Access
given_within window t given = if has_minute t window then given else None

-- laying what is given in the window over the old closed minutes gives the new ones
abbrev pub Lays : Purpose → Run → (ℕ → Option Access) → List Run → List Run → Type 0
Lays purpose window given old new = (t : ℕ) → any_has new t ≡ barred_by purpose (given_within window t (given t)) (any_has old t)
