-- Words of the callers: a ban at an instant (source: own).
use Rattle.std.specs.Prelude.{ℕ, List}
use Rattle.opening_hours.specs.Coverage.{IsCovered}
use Rattle.opening_hours.specs.Holidays.{HolidayLists}
use Rattle.opening_hours.specs.declared.types.HoursRule.{HoursRule}
use Rattle.zone_rules.specs.Zones.{wall_at}
use Rattle.zone_rules.specs.declared.rows.ZoneRow.{ZoneRow}

-- the rules cover the day and minute that a clock of the zone shows
abbrev pub IsBannedAt : List HoursRule → List ZoneRow → HolidayLists → ℕ → Type 0
IsBannedAt rules zone holidays t = IsCovered rules holidays (wall_at zone t).day (wall_at zone t).minute
