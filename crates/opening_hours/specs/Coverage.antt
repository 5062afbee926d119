-- The minutes that hours cover (source: own).
use Rattle.std.specs.Prelude.{◌≡◌, ℕ, ◌+◌, ◌-◌, ◌*◌, ◌≤◌, ◌&&◌, ◌||◌, zero, suc, Bool, true, false, nat_le, nat_lt, Option, Some, None, List, [], ◌∷◌}
use Rattle.std.specs.List.{list_any}
use Rattle.opening_hours.specs.Holidays.{HolidayLists}
use Rattle.opening_hours.specs.Matching.{facts_of, governing}
use Rattle.opening_hours.specs.declared.types.TimeSpan.{TimeSpan}
use Rattle.opening_hours.specs.declared.types.RuleTimes.{RuleTimes}
use Rattle.opening_hours.specs.declared.types.RuleTimes.TheVariants as times
use Rattle.opening_hours.specs.declared.types.HoursRule.{HoursRule}

-- the spans of a rule
abbrev pub spans_of_times : RuleTimes → List TimeSpan
spans_of_times times.Off = []
spans_of_times (times.Spans ss) = ss
spans_of_times (times.Long l) = record { start = l.start; length = l.length } ∷ []

-- the spans of a day that such a rule governs, and none where no rule does
abbrev pub spans_of : Option HoursRule → List TimeSpan
spans_of None = []
spans_of (Some r) = spans_of_times r.times

-- the spans that start on a day
abbrev pub day_spans : List HoursRule → HolidayLists → ℕ → List TimeSpan
day_spans rules holidays day = spans_of (governing (facts_of holidays day) rules)

-- the span holds a minute that is counted from the start of its day
abbrev pub holds : ℕ → TimeSpan → Bool
holds at s = nat_le s.start at && nat_lt (at - s.start) s.length

-- (day, minute) is covered: a span that began up to seven days before holds the minute
abbrev pub IsCovered : List HoursRule → HolidayLists → ℕ → ℕ → Type 0
IsCovered rules holidays day minute = (k : ℕ) × (k ≤ 7) × (list_any (holds (minute + 1440 * k)) (day_spans rules holidays (day - k)) ≡ true)

-- whether one of the numbers below n passes
abbrev pub any_below : (ℕ → Bool) → ℕ → Bool
any_below p zero = false
any_below p (suc n) = any_below p n || p n

-- whether (day, minute) is covered, as a test
unfoldable pub is_covered : List HoursRule → HolidayLists → ℕ → ℕ → Bool
is_covered rules holidays day minute = any_below (λ k. list_any (holds (minute + 1440 * k)) (day_spans rules holidays (day - k))) 8
