use Rattle.std.proofs.Common.{◌≡◌, replicate}
use Rattle.area_tables.proofs.DatedRows.{no_days}
use Rattle.area_tables.proofs.holidays.HolidayTable.new.Given as goal

abbrev pub invariant-loop-area : goal.invariant-loop-area
invariant-loop-area l = l.days.items ≡ replicate l._area no_days
