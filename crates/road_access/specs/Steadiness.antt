-- For how long the same rule decides an arc's access (source: own).
use Rattle.std.specs.Prelude.{◌≡◌, ℕ, ◌+◌, ◌<◌, ◌≤◌, List}
use Rattle.vehicle_classes.specs.VehicleModel.{VehicleModel}
use Rattle.vehicle_classes.specs.declared.classes.Key.{Key}
use Rattle.zone_rules.specs.Zones.{wall_at}
use Rattle.zone_rules.specs.declared.rows.ZoneRow.{ZoneRow}
use Rattle.network_tables.specs.Access.{area_at, area_place}
use Rattle.network_tables.specs.NetworkModel.{NetworkModel}
use Rattle.road_access.specs.Rulings.{ruling_given}

-- at u clocks show the same day as at t, and one of the `count` minutes from the one that they show at t on
pub record IsSoonAfter (zone : List ZoneRow) (t count u : ℕ) : Type 0 where
  pub day : (wall_at zone u).day ≡ (wall_at zone t).day
  pub from_on : (wall_at zone t).minute ≤ (wall_at zone u).minute
  pub before : (wall_at zone u).minute < (wall_at zone t).minute + count

-- at all such instants the same rule of these keys decides as at t, or none
abbrev pub RuleSteadily : NetworkModel → VehicleModel → ℕ → ℕ → List Key → ℕ → Type 0
RuleSteadily network vehicle a t keys count =
    (u : ℕ) → IsSoonAfter (area_at network (area_place network a)).zone t count u
    → ruling_given network vehicle a u keys ≡ ruling_given network vehicle a t keys
