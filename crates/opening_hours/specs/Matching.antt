-- The rule that governs a day (source: OpenStreetMap wiki, `opening_hours`; that the last match governs the whole day is own).
use Rattle.std.specs.Prelude.{ℕ, ◌-◌, ◌*◌, ◌==◌, ◌&&◌, ◌||◌, Bool, nat_le, nat_lt, length, Option, Some, None, List, [], ◌∷◌, if◌then◌else◌}
use Rattle.std.specs.List.{list_any}
use Rattle.std.specs.Option.{option_or}
use Rattle.calendar_days.specs.declared.days.CivilDate.{CivilDate}
use Rattle.calendar_days.specs.Weekdays.{days_forward, index_of, weekday_on}
use Rattle.calendar_days.specs.Days.{date_on, later_days}
use Rattle.opening_hours.specs.Holidays.{HolidayLists, is_listed}
use Rattle.opening_hours.specs.declared.matching.DayFacts.{DayFacts}
use Rattle.opening_hours.specs.declared.types.DateSpan.{DateSpan}
use Rattle.opening_hours.specs.declared.types.DayItem.{DayItem}
use Rattle.opening_hours.specs.declared.types.DayItem.TheVariants as items
use Rattle.opening_hours.specs.declared.types.RuleTimes.{RuleTimes}
use Rattle.opening_hours.specs.declared.types.RuleTimes.TheVariants as times
use Rattle.opening_hours.specs.declared.types.HoursRule.{HoursRule}

-- day a of month m isn't later than day b of month n
abbrev pub is_not_later : ℕ → ℕ → ℕ → ℕ → Bool
is_not_later m a n b = nat_lt m n || (m == n && nat_le a b)

-- a date lies between the ends; where the first end is later than the last, it isn't before the first or isn't after the last
abbrev pub in_dates : CivilDate → DateSpan → Bool
in_dates date s =
    let from_first = is_not_later s.first_month s.first_day date.month date.day in
    let to_last = is_not_later date.month date.day s.last_month s.last_day in
    if is_not_later s.first_month s.first_day s.last_month s.last_day then from_first && to_last else from_first || to_last

-- the facts about a day that a rule depends on
unfoldable pub facts_of : HolidayLists → ℕ → DayFacts
facts_of holidays day = record {
  date = date_on day;
  weekday = weekday_on day;
  public =
      is_listed day holidays.public;
  school = is_listed day holidays.school;
  days_left = later_days (date_on day);
}

-- the k-th day of a weekday in a month is one of the days 7k-6 to 7k
abbrev pub is_nth : ℕ → ℕ → Bool
is_nth k day = nat_le (7 * k - 6) day && nat_le day (7 * k)

-- the k-th last has 7k-7 to 7k-1 days of the month after it
abbrev pub is_nth_last : ℕ → ℕ → Bool
is_nth_last k later = nat_le (7 * k - 7) later && nat_le later (7 * k - 1)

-- weekday a to weekday b is each day from a forward to b
abbrev pub in_item : DayFacts → DayItem → Bool
in_item f (items.Week a b) = nat_le (days_forward a f.weekday) (days_forward a b)
in_item f items.Public = f.public
in_item f items.School = f.school
in_item f (items.Nth a k) = index_of f.weekday == index_of a && is_nth k f.date.day
in_item f (items.NthLast a k) = index_of f.weekday == index_of a && is_nth_last k f.days_left

-- one of them holds the day, or there are none
abbrev pub one_or_none : {A : Type 0} → (A → Bool) → List A → Bool
one_or_none p xs = length xs == 0 || list_any p xs

-- a long span's only day item is its first weekday
abbrev pub in_days : DayFacts → List DayItem → RuleTimes → Bool
in_days f is (times.Long l) = index_of f.weekday == index_of l.weekday
in_days f is t = one_or_none (in_item f) is

-- a rule matches a day where its dates hold the date, and its days the day
abbrev pub matches : DayFacts → HoursRule → Bool
matches f r = one_or_none (in_dates f.date) r.dates && in_days f r.days r.times

-- the last rule that matches
abbrev pub governing : DayFacts → List HoursRule → Option HoursRule
governing f [] = None
governing f (r ∷ rs) = option_or (governing f rs) (if matches f r then Some r else None)
