-- The grammar of hours over tokens, one constructor a form, with its meaning (source: OpenStreetMap wiki, `opening_hours`, a subset;
-- the long span is this project's own form).
use Rattle.std.specs.Prelude.{◌≢◌, ℕ, ◌+◌, ◌-◌, ◌*◌, ◌≤◌, nat_lt, List, [], ◌∷◌, ◌++◌, if◌then◌else◌}
use Rattle.calendar_days.specs.declared.weekday.Weekday.{Weekday}
use Rattle.calendar_days.specs.Weekdays.{days_forward}
use Rattle.opening_hours.specs.declared.tokens.Token.{Token}
use Rattle.opening_hours.specs.declared.tokens.Token.TheVariants.{Month, Day, Public, School, Off, Open, Always, Time}
use Rattle.opening_hours.specs.declared.tokens.Token.TheVariants.{Number, Dash, Comma, Semicolon, Colon, LeftBracket, RightBracket}
use Rattle.opening_hours.specs.declared.tokens.Digits.{Digits}
use Rattle.opening_hours.specs.declared.tokens.Digits.TheVariants as digits
use Rattle.opening_hours.specs.declared.types.DateSpan.{DateSpan}
use Rattle.opening_hours.specs.declared.types.DayItem.{DayItem}
use Rattle.opening_hours.specs.declared.types.DayItem.TheVariants as items
use Rattle.opening_hours.specs.declared.types.TimeSpan.{TimeSpan}
use Rattle.opening_hours.specs.declared.types.LongSpan.{LongSpan}
use Rattle.opening_hours.specs.declared.types.RuleTimes.TheVariants as times
use Rattle.opening_hours.specs.declared.types.HoursRule.{HoursRule}

-- from day a of month m to day b of month n
abbrev pub dates_from_to : ℕ → ℕ → ℕ → ℕ → DateSpan
dates_from_to m a n b = record { first_month = m; first_day = a; last_month = n; last_day = b }

-- a day number is from 1 to 31, for every month
abbrev pub IsDayNumber : ℕ → Type 0
IsDayNumber a = (1 ≤ a) × (a ≤ 31)

abbrev pub IsMonth : ℕ → Type 0
IsMonth m = (1 ≤ m) × (m ≤ 12)

-- a month has at most five days of a weekday
abbrev pub IsOrdinal : ℕ → Type 0
IsOrdinal k = (1 ≤ k) × (k ≤ 5)

-- a time of day, h hours and m minutes, that is at most a limit
abbrev pub IsTime : ℕ → ℕ → ℕ → Type 0
IsTime h m limit = (m ≤ 59) × (60 * h + m ≤ limit)

-- the minutes of a span: the end is on the next day where it isn't above the start
abbrev pub span_length : ℕ → ℕ → ℕ
span_length start end = if nat_lt start end then end - start else end + 1440 - start

-- the same of a span over days, from weekday a forward to weekday b: a week later where the end isn't above the start
abbrev pub long_length : Weekday → ℕ → Weekday → ℕ → ℕ
long_length a start b end = let last = 1440 * days_forward a b + end in if nat_lt start last then last - start else last + 10080 - start

-- Jul, Jul-Aug, Jul 05, Jul 05-29, Jul 05-Aug 07
pub data IsDate : List Token → DateSpan → Type 0 where
  month : {m : ℕ} → IsMonth m → IsDate (Month m ∷ []) (dates_from_to m 1 m 31)
  months : {m n : ℕ} → IsMonth m → IsMonth n → IsDate (Month m ∷ Dash ∷ Month n ∷ []) (dates_from_to m 1 n 31)
  day : {m a : ℕ} {i : Digits} → IsMonth m → IsDayNumber a → IsDate (Month m ∷ Number a i ∷ []) (dates_from_to m a m a)
  days : {m a b : ℕ} {i j : Digits} → IsMonth m → IsDayNumber a → IsDayNumber b
      → IsDate (Month m ∷ Number a i ∷ Dash ∷ Number b j ∷ []) (dates_from_to m a m b)
  days_over : {m a n b : ℕ} {i j : Digits} → IsMonth m → IsDayNumber a → IsMonth n → IsDayNumber b
      → IsDate (Month m ∷ Number a i ∷ Dash ∷ Month n ∷ Number b j ∷ []) (dates_from_to m a n b)

-- Mo, Mo-Fr, PH, SH, Su[1], Fr[-1]: the number in brackets has one digit
pub data IsItem : List Token → DayItem → Type 0 where
  weekday : {a : Weekday} → IsItem (Day a ∷ []) (items.Week a a)
  weekdays : {a b : Weekday} → IsItem (Day a ∷ Dash ∷ Day b ∷ []) (items.Week a b)
  public : IsItem (Public ∷ []) items.Public
  school : IsItem (School ∷ []) items.School
  nth : {a : Weekday} {k : ℕ} → IsOrdinal k → IsItem (Day a ∷ LeftBracket ∷ Number k digits.One ∷ RightBracket ∷ []) (items.Nth a k)
  nth_last : {a : Weekday} {k : ℕ} → IsOrdinal k
      → IsItem (Day a ∷ LeftBracket ∷ Dash ∷ Number k digits.One ∷ RightBracket ∷ []) (items.NthLast a k)

-- 22:00-06:00: the start is before 24:00, and the end at 48:00 at the latest
pub data IsSpan : List Token → TimeSpan → Type 0 where
  span : {h m g n : ℕ} → IsTime h m 1439 → IsTime g n 2880
      → IsSpan (Time h m ∷ Dash ∷ Time g n ∷ []) (record { start = 60 * h + m; length = span_length (60 * h + m) (60 * g + n) })

-- Sa 22:00-Su 22:00: the start is before 24:00, and the end at 24:00 at the latest
pub data IsLong : List Token → LongSpan → Type 0 where
  long : {a b : Weekday} {h m g n : ℕ} → IsTime h m 1439 → IsTime g n 1440
      → IsLong (Day a ∷ Time h m ∷ Dash ∷ Day b ∷ Time g n ∷ [])
      (record { weekday = a; start = 60 * h + m; length = long_length a (60 * h + m) b (60 * g + n) })

-- One thing, or several with the mark between them.
pub data Joined {A : Type 0} (Is : List Token → A → Type 0) (mark : Token) : List Token → List A → Type 0 where
  one : {ts : List Token} {x : A} → Is ts x → Joined Is mark ts (x ∷ [])
  more : {ts us : List Token} {x : A} {xs : List A} → Is ts x → Joined Is mark us xs → Joined Is mark (ts ++ mark ∷ us) (x ∷ xs)

-- the dates of a rule: none, or dates with or without a colon after them
pub data IsDates : List Token → List DateSpan → Type 0 where
  none : IsDates [] []
  plain : {ts : List Token} {ds : List DateSpan} → Joined IsDate Comma ts ds → IsDates ts ds
  colon : {ts : List Token} {ds : List DateSpan} → Joined IsDate Comma ts ds → IsDates (ts ++ Colon ∷ []) ds

-- the days of a rule: none, or items with commas between them
pub data IsDays : List Token → List DayItem → Type 0 where
  none : IsDays [] []
  some : {ts : List Token} {is : List DayItem} → Joined IsItem Comma ts is → IsDays ts is

abbrev pub whole_day : List TimeSpan
whole_day = record { start = 0; length = 1440 } ∷ []

-- the spans of a rule: the whole day where none is written, or spans with commas between them
pub data IsSpans : List Token → List TimeSpan → Type 0 where
  none : IsSpans [] whole_day
  some : {ts : List Token} {ss : List TimeSpan} → Joined IsSpan Comma ts ss → IsSpans ts ss

-- the word `open` may end a rule, and changes nothing
pub data IsOpens : List Token → Type 0 where
  none : IsOpens []
  word : IsOpens (Open ∷ [])

-- a rule: 24/7; dates, days and spans, one at least; dates and days that are off; or dates and a long span
pub data IsRule : List Token → HoursRule → Type 0 where
  always : {os : List Token} → IsOpens os → IsRule (Always ∷ os) (record { dates = []; days = []; times = times.Spans whole_day })
  spans : {a b c os : List Token} {dates : List DateSpan} {days : List DayItem} {spans : List TimeSpan}
      → IsDates a dates → IsDays b days → IsSpans c spans → IsOpens os → (a ++ (b ++ c) ≢ [])
      → IsRule (a ++ (b ++ (c ++ os))) (record { dates = dates; days = days; times = times.Spans spans })
  off : {a b : List Token} {dates : List DateSpan} {days : List DayItem}
      → IsDates a dates → IsDays b days → IsRule (a ++ (b ++ Off ∷ [])) (record { dates = dates; days = days; times = times.Off })
  long : {a b os : List Token} {dates : List DateSpan} {l : LongSpan}
      → IsDates a dates → IsLong b l → IsOpens os → IsRule (a ++ (b ++ os)) (record { dates = dates; days = []; times = times.Long l })

-- rules with semicolons between them
abbrev pub IsRules : List Token → List HoursRule → Type 0
IsRules = Joined IsRule Semicolon
