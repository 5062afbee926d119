-- The minutes of UTC that hours cover in a zone, as tests (source: own).
use Rattle.std.specs.Prelude.{ℕ, ◌+◌, ◌<◌, ◌≤◌, Bool, List}
use Rattle.route_base.specs.Time.{first_instant, last_instant}
use Rattle.route_base.specs.declared.types.Run.{Run}
use Rattle.opening_hours.specs.Holidays.{HolidayLists}
use Rattle.opening_hours.specs.Coverage.{is_covered}
use Rattle.opening_hours.specs.declared.types.HoursRule.{HoursRule}
use Rattle.zone_rules.specs.Zones.{wall_at}
use Rattle.zone_rules.specs.declared.rows.ZoneRow.{ZoneRow}

-- the window's minutes, if it has any, are instants
pub record IsWindow (window : Run) : Type 0 where
  pub from : window.lo < window.hi → first_instant ≤ window.lo
  pub to : window.lo < window.hi → window.hi ≤ last_instant + 1

-- the day and minute that a clock on the wall shows are covered
abbrev pub covered_at : List HoursRule → HolidayLists → List ZoneRow → ℕ → Bool
covered_at rules holidays zone t = is_covered rules holidays (wall_at zone t).day (wall_at zone t).minute
