-- The canonical tokens and text of rules (source: own).
use Rattle.std.specs.Prelude.{ℕ, ◌+◌, ◌/◌, ◌%◌, ◌==◌, List, [], ◌∷◌, ◌++◌, if◌then◌else◌}
use Rattle.calendar_days.specs.declared.weekday.Weekday.{Weekday}
use Rattle.calendar_days.specs.declared.weekday.Weekday.TheVariants.{Mo, Tu, We, Th, Fr, Sa, Su}
use Rattle.calendar_days.specs.Weekdays.{index_of}
use Rattle.opening_hours.specs.declared.tokens.Token.{Token}
use Rattle.opening_hours.specs.declared.tokens.Token.TheVariants.{Month, Day, Public, School, Off, Time, Number, Dash, Comma, Semicolon}
use Rattle.opening_hours.specs.declared.tokens.Token.TheVariants.{LeftBracket, RightBracket}
use Rattle.opening_hours.specs.declared.tokens.Digits.TheVariants as digits
use Rattle.opening_hours.specs.declared.types.DateSpan.{DateSpan}
use Rattle.opening_hours.specs.declared.types.DayItem.{DayItem}
use Rattle.opening_hours.specs.declared.types.DayItem.TheVariants as items
use Rattle.opening_hours.specs.declared.types.TimeSpan.{TimeSpan}
use Rattle.opening_hours.specs.declared.types.LongSpan.{LongSpan}
use Rattle.opening_hours.specs.declared.types.RuleTimes.{RuleTimes}
use Rattle.opening_hours.specs.declared.types.RuleTimes.TheVariants as times
use Rattle.opening_hours.specs.declared.types.HoursRule.{HoursRule}
use Rattle.opening_hours.specs.CanonicalText.{spell}

-- things with a mark between them
abbrev pub listed : {A : Type 0} → Token → (A → List Token) → List A → List Token
listed mark f [] = []
listed mark f (x ∷ []) = f x
listed mark f (x ∷ y ∷ ys) = f x ++ mark ∷ listed mark f (y ∷ ys)

-- Jul 01-Aug 31
abbrev pub date_tokens : DateSpan → List Token
date_tokens d = Month d.first_month ∷ Number d.first_day digits.Two ∷ Dash ∷ Month d.last_month ∷ Number d.last_day digits.Two ∷ []

-- Mo-Fr, or Mo where both ends agree; Su[1], Fr[-1]
abbrev pub item_tokens : DayItem → List Token
item_tokens (items.Week a b) = if index_of a == index_of b then Day a ∷ [] else Day a ∷ Dash ∷ Day b ∷ []
item_tokens items.Public = Public ∷ []
item_tokens items.School = School ∷ []
item_tokens (items.Nth a k) = Day a ∷ LeftBracket ∷ Number k digits.One ∷ RightBracket ∷ []
item_tokens (items.NthLast a k) = Day a ∷ LeftBracket ∷ Dash ∷ Number k digits.One ∷ RightBracket ∷ []

-- minute t of a day, or of the days after it
abbrev pub time_token : ℕ → Token
time_token t = Time (t / 60) (t % 60)

-- 22:00-30:00, with the end as start plus length
abbrev pub span_tokens : TimeSpan → List Token
span_tokens s = time_token s.start ∷ Dash ∷ time_token (s.start + s.length) ∷ []

-- the weekday with an index: Mo has 0, and Su 6
abbrev pub weekday_at : ℕ → Weekday
weekday_at n = if n == 0 then Mo else if n == 1 then Tu else if n == 2 then We else if n == 3 then Th else if n == 4 then Fr
    else if n == 5 then Sa else Su

-- the weekday k days after another
abbrev pub days_after : ℕ → Weekday → Weekday
days_after k w = weekday_at ((k % 7 + index_of w) % 7)

-- with the end's weekday and time of day
abbrev pub long_tokens : LongSpan → List Token
long_tokens l =
    let end = l.start + l.length in
    Day l.weekday ∷ time_token l.start ∷ Dash ∷ Day (days_after (end / 1440) l.weekday) ∷ time_token (end % 1440) ∷ []

-- off, the spans, or the long span
abbrev pub times_tokens : RuleTimes → List Token
times_tokens times.Off = Off ∷ []
times_tokens (times.Spans ss) = listed Comma span_tokens ss
times_tokens (times.Long l) = long_tokens l

-- the dates, the days and the times of a rule
abbrev pub rule_tokens : HoursRule → List Token
rule_tokens r = listed Comma date_tokens r.dates ++ (listed Comma item_tokens r.days ++ times_tokens r.times)

-- rules with semicolons between them
abbrev pub hours_tokens : List HoursRule → List Token
hours_tokens rs = listed Semicolon rule_tokens rs

-- the canonical text
abbrev pub hours_text : List HoursRule → List ℕ
hours_text rs = spell (hours_tokens rs)
