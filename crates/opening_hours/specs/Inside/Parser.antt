-- The parser, step by step: how tokens are read (source: own; no law: `Grammar` is, and that these steps meet it is proved).
use Rattle.std.specs.Prelude.{◌≡◌, ℕ, ◌+◌, ◌*◌, ◌&&◌, Bool, true, false, nat_le, not, Option, Some, None, List, [], ◌∷◌}
use Rattle.std.specs.Prelude.{if◌then◌else◌, option_and_then, option_map, Result, Ok, Err}
use Rattle.std.specs.List.{slice_split, take_while}
use Rattle.opening_hours.specs.declared.tokens.Token.{Token}
use Rattle.opening_hours.specs.declared.tokens.Token.TheVariants.{Month, Day, Public, School, Off, Open, Always, Time}
use Rattle.opening_hours.specs.declared.tokens.Token.TheVariants.{Number, Dash, Comma, Semicolon, Colon, LeftBracket, RightBracket}
use Rattle.opening_hours.specs.declared.tokens.Digits.TheVariants as digits
use Rattle.opening_hours.specs.declared.tokens.Part.{Part}
use Rattle.opening_hours.specs.declared.tokens.Part.TheVariants as parts
use Rattle.opening_hours.specs.declared.types.DateSpan.{DateSpan}
use Rattle.opening_hours.specs.declared.types.DayItem.{DayItem}
use Rattle.opening_hours.specs.declared.types.DayItem.TheVariants as items
use Rattle.opening_hours.specs.declared.types.TimeSpan.{TimeSpan}
use Rattle.opening_hours.specs.declared.types.LongSpan.{LongSpan}
use Rattle.opening_hours.specs.declared.types.RuleTimes.{RuleTimes}
use Rattle.opening_hours.specs.declared.types.RuleTimes.TheVariants as times
use Rattle.opening_hours.specs.declared.types.HoursRule.{HoursRule}
use Rattle.opening_hours.specs.declared.faults.HoursFault.{HoursFault}
use Rattle.opening_hours.specs.declared.faults.HoursFault.TheVariants as faults
use Rattle.opening_hours.specs.Grammar.{dates_from_to, span_length, long_length, whole_day}

abbrev pub is_day_number : ℕ → Bool
is_day_number a = nat_le 1 a && nat_le a 31

abbrev pub is_month : ℕ → Bool
is_month m = nat_le 1 m && nat_le m 12

abbrev pub is_ordinal : ℕ → Bool
is_ordinal k = nat_le 1 k && nat_le k 5

abbrev pub is_time : ℕ → ℕ → ℕ → Bool
is_time h m limit = nat_le m 59 && nat_le (60 * h + m) limit

abbrev pub read_date : List Token → Option DateSpan
read_date (Month m ∷ []) = if is_month m then Some (dates_from_to m 1 m 31) else None
read_date (Month m ∷ Dash ∷ Month n ∷ []) = if is_month m && is_month n then Some (dates_from_to m 1 n 31) else None
read_date (Month m ∷ Number a i ∷ []) = if is_month m && is_day_number a then Some (dates_from_to m a m a) else None
read_date (Month m ∷ Number a i ∷ Dash ∷ Number b j ∷ []) = if is_month m && (is_day_number a && is_day_number b) then
    Some (dates_from_to m a m b) else None
read_date (Month m ∷ Number a i ∷ Dash ∷ Month n ∷ Number b j ∷ []) =
    if is_month m && (is_day_number a && (is_month n && is_day_number b)) then Some (dates_from_to m a n b) else None
read_date ts = None

abbrev pub read_item : List Token → Option DayItem
read_item (Day a ∷ []) = Some (items.Week a a)
read_item (Day a ∷ Dash ∷ Day b ∷ []) = Some (items.Week a b)
read_item (Public ∷ []) = Some items.Public
read_item (School ∷ []) = Some items.School
read_item (Day a ∷ LeftBracket ∷ Number k digits.One ∷ RightBracket ∷ []) = if is_ordinal k then Some (items.Nth a k) else None
read_item (Day a ∷ LeftBracket ∷ Dash ∷ Number k digits.One ∷ RightBracket ∷ []) = if is_ordinal k then Some (items.NthLast a k) else None
read_item ts = None

abbrev pub read_span : List Token → Option TimeSpan
read_span (Time h m ∷ Dash ∷ Time g n ∷ []) = if is_time h m 1439 && is_time g n 2880 then
    Some (record { start = 60 * h + m; length = span_length (60 * h + m) (60 * g + n) }) else None
read_span ts = None

-- the tokens of which a part is made; a rule ends at a semicolon, and one thing of a list at a comma
abbrev pub belongs : Part → Token → Bool
belongs parts.Rule Semicolon = false
belongs parts.Rule t = true
belongs parts.Item Comma = false
belongs parts.Item t = true
belongs parts.Dates (Month m) = true
belongs parts.Dates (Number a i) = true
belongs parts.Dates Dash = true
belongs parts.Dates Comma = true
belongs parts.Dates t = false
belongs parts.Days (Day a) = true
belongs parts.Days Public = true
belongs parts.Days School = true
belongs parts.Days LeftBracket = true
belongs parts.Days (Number a i) = true
belongs parts.Days RightBracket = true
belongs parts.Days Dash = true
belongs parts.Days Comma = true
belongs parts.Days t = false
belongs parts.Spans (Time h m) = true
belongs parts.Spans Dash = true
belongs parts.Spans Comma = true
belongs parts.Spans t = false

-- the tokens from the first that fails p
abbrev pub behind : (Token → Bool) → List Token → List Token
behind p [] = []
behind p (t ∷ ts) = if p t then behind p ts else t ∷ ts

-- the tokens after the first, if there is one
abbrev pub tail_of : List Token → Option (List Token)
tail_of [] = None
tail_of (t ∷ ts) = Some ts

abbrev pub pieces : Part → List Token → List (List Token)
pieces part ts = slice_split (λ t. not (belongs part t)) ts

-- each piece read, if each can be read
abbrev pub all_read : {A : Type 0} → (List Token → Option A) → List (List Token) → Option (List A)
all_read f [] = Some []
all_read f (p ∷ ps) = option_and_then (λ x. option_map (λ xs. x ∷ xs) (all_read f ps)) (f p)

unfoldable pub read_list : {A : Type 0} → (List Token → Option A) → List Token → Option (List A)
read_list f ts = all_read f (pieces parts.Item ts)

unfoldable pub read_dates : List Token → Option (List DateSpan)
read_dates [] = Some []
read_dates (t ∷ ts) = read_list read_date (t ∷ ts)

unfoldable pub read_days : List Token → Option (List DayItem)
read_days [] = Some []
read_days (t ∷ ts) = read_list read_item (t ∷ ts)

unfoldable pub read_spans : List Token → Option (List TimeSpan)
read_spans [] = Some whole_day
read_spans (t ∷ ts) = read_list read_span (t ∷ ts)

abbrev pub is_opens : List Token → Bool
is_opens [] = true
is_opens (Open ∷ []) = true
is_opens ts = false

-- a weekday, a time, a dash and a weekday begin a long span and nothing else
abbrev pub is_long : List Token → Bool
is_long (Day a ∷ Time h m ∷ Dash ∷ Day b ∷ ts) = true
is_long ts = false

abbrev pub read_long : List Token → Option LongSpan
read_long (Day a ∷ Time h m ∷ Dash ∷ Day b ∷ Time g n ∷ os) =
    if is_time h m 1439 && (is_time g n 1440 && is_opens os) then
    Some (record { weekday = a; start = 60 * h + m; length = long_length a (60 * h + m) b (60 * g + n) }) else None
read_long ts = None

abbrev pub is_off : List Token → Bool
is_off (Off ∷ []) = true
is_off ts = false

unfoldable pub read_times : List Token → Option RuleTimes
read_times ts =
    if is_off ts then Some times.Off
    else if is_opens (behind (belongs parts.Spans) ts) then option_map (λ ss. times.Spans ss) (read_spans (take_while (belongs parts.Spans) ts))
    else None

abbrev pub hours_rule_of : List DateSpan → List DayItem → RuleTimes → HoursRule
hours_rule_of ds is ts = record { dates = ds; days = is; times = ts }

-- the tokens behind the dates
unfoldable pub read_after : List DateSpan → List Token → Option HoursRule
read_after ds ts =
    if is_long ts then option_map (λ l. hours_rule_of ds [] (times.Long l)) (read_long ts)
    else option_and_then (λ is. option_map (λ t. hours_rule_of ds is t) (read_times (behind (belongs parts.Days) ts)))
    (read_days (take_while (belongs parts.Days) ts))

-- a colon may stand behind dates
abbrev pub without_colon : List Token → List Token → List Token
without_colon (t ∷ ts) (Colon ∷ rest) = rest
without_colon ts rest = rest

unfoldable pub read_dated : List Token → Option HoursRule
read_dated ts =
    let dates = take_while (belongs parts.Dates) ts in
    option_and_then (λ ds. read_after ds (without_colon dates (behind (belongs parts.Dates) ts))) (read_dates dates)

unfoldable pub read_rule : List Token → Option HoursRule
read_rule (Always ∷ os) = if is_opens os then Some (hours_rule_of [] [] (times.Spans whole_day)) else None
read_rule ts = if is_opens ts then None else read_dated ts

unfoldable pub read_rules : List Token → Option (List HoursRule)
read_rules ts = all_read read_rule (pieces parts.Rule ts)

-- A fault means that reading gives nothing, or that memory ran out.
abbrev pub Fails : {Y : Type 0} → HoursFault → Option Y → Type 0
Fails faults.NotHours read = read ≡ None
Fails faults.OutOfMemory read = Unit {0}

-- The value that a function returned, seen by view, is the one that reading gives, unless memory ran out.
abbrev pub ParsesAs : {X Y : Type 0} → (X → Y) → Result X HoursFault → Option Y → Type 0
ParsesAs view (Ok x) read = read ≡ Some (view x)
ParsesAs view (Err e) read = Fails e read
