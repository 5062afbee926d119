use Rattle.std.proofs.Common.{◌≤◌, ◌-◌, ◌&&◌}
use Rattle.covered_minutes.specs.LocalDays.{Adds, local_of, is_in, days_cover}
use Rattle.covered_minutes.proofs.local_days.add_stretch.Given as goal

abbrev pub invariant-days : goal.invariant-days
invariant-days l = record {
  from : l.initial.day ≤ l.day;
  upto : l.day ≤ l.end;
  minutes : Adds l.fn.runs.items l.runs.items (λ t.
      is_in l.stretch t && days_cover l.hours l.holidays l.initial.day (l.day - l.initial.day) (local_of l.stretch.ahead t));
}

abbrev pub decreases-days : goal.decreases-days
decreases-days l = l.end - l.day
