-- The minutes that local days cover, where local time keeps one distance from UTC (source: own).
use Rattle.std.specs.Prelude.{◌≡◌, ◌≤◌, ℕ, ◌+◌, ◌-◌, ◌*◌, ◌/◌, ◌%◌, ◌&&◌, ◌||◌, Bool, nat_le, nat_lt, List}
use Rattle.std.specs.List.{list_any}
use Rattle.route_base.specs.Runs.{has_minute, any_has}
use Rattle.route_base.specs.declared.types.Run.{Run}
use Rattle.opening_hours.specs.Holidays.{HolidayLists}
use Rattle.opening_hours.specs.Coverage.{any_below, day_spans, holds, is_covered}
use Rattle.opening_hours.specs.declared.types.HoursRule.{HoursRule}
use Rattle.opening_hours.specs.declared.types.TimeSpan.{TimeSpan}
use Rattle.covered_minutes.specs.declared.local_days.Stretch.{Stretch}

-- the new runs have the minutes of the old ones and those that pass
abbrev pub Adds : List Run → List Run → (ℕ → Bool) → Type 0
Adds old new passes = (t : ℕ) → any_has new t ≡ (any_has old t || passes t)

-- a local minute, counted as Unix minutes are, is covered
abbrev pub local_covered : List HoursRule → HolidayLists → ℕ → Bool
local_covered rules holidays l = is_covered rules holidays (l / 1440) (l % 1440)

-- a span of a day holds a local minute of that day or of the seven days after it
abbrev pub span_holds : ℕ → ℕ → TimeSpan → Bool
span_holds day l s = nat_le (1440 * day) l && (nat_lt l (1440 * (day + 8)) && holds (l - 1440 * day) s)

-- a span of the day does
abbrev pub day_covers : List HoursRule → HolidayLists → ℕ → ℕ → Bool
day_covers rules holidays day l = list_any (span_holds day l) (day_spans rules holidays day)

-- a span of one of the n days from the first on does
abbrev pub days_cover : List HoursRule → HolidayLists → ℕ → ℕ → ℕ → Bool
days_cover rules holidays first n l = any_below (λ i. day_covers rules holidays (first + i) l) n

-- the local minute of a minute of UTC, where local time is `ahead` minutes ahead of a clock that is 18 hours behind UTC
abbrev pub local_of : ℕ → ℕ → ℕ
local_of ahead t = t + ahead - 1080

-- the stretch has the minute
abbrev pub is_in : Stretch → ℕ → Bool
is_in s t = has_minute t s.minutes

-- no minute of the stretch or of the local day comes before minute 0 of a clock that is 18 hours behind UTC
pub record IsLate (day : ℕ) (stretch : Stretch) : Type 0 where
  pub from_day : 2 ≤ day
  pub ahead : stretch.ahead ≤ 2160
  pub from : 2160 ≤ stretch.minutes.lo
