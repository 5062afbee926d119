-- Dates and instants as texts, and Unix minutes as digits (source: ISO 8601).
use Rattle.std.specs.Prelude.{◌≡◌, ◌⊎◌, ℕ, ◌+◌, ◌*◌, ◌/◌, ◌%◌, ◌&&◌, ◌||◌, nat_lt, Option, Some, None, List, [], ◌∷◌, ◌++◌}
use Rattle.std.specs.Prelude.{codes, bytes_eq, take, drop, decimal, if◌then◌else◌, option_and_then}
use Rattle.std.specs.Option.{option_or}
use Rattle.route_base.specs.Digits.{number_of}
use Rattle.route_base.specs.Forms.{minute_of, is_from_to}
use Rattle.route_base.specs.Time.{first_instant, last_instant}
use Rattle.calendar_days.specs.Days.{day_of_parts, date_on}
use Rattle.calendar_days.specs.declared.days.CivilDate.{CivilDate}

-- the day number of `YYYY-MM-DD`, a date of the years 1970 to 2200
unfoldable pub day_of_text : List ℕ → Option ℕ
day_of_text (y3 ∷ y2 ∷ y1 ∷ y0 ∷ a ∷ m1 ∷ m0 ∷ b ∷ d1 ∷ d0 ∷ []) =
    if bytes_eq (a ∷ b ∷ []) (codes "--")
    then option_and_then (λ y. option_and_then (λ m. option_and_then (λ d. day_of_parts y m d)
    (number_of (d1 ∷ d0 ∷ []))) (number_of (m1 ∷ m0 ∷ []))) (number_of (y3 ∷ y2 ∷ y1 ∷ y0 ∷ []))
    else None
day_of_text text = None

-- the minute of the day of an hour and a minute, from 00:00 to 23:59
abbrev pub minute_of_day : ℕ → ℕ → Option ℕ
minute_of_day h n = if nat_lt h 24 && nat_lt n 60 then Some (60 * h + n) else None

-- the minute of the day of `THH:MMZ` or `THH:MM:00Z`
unfoldable pub clock_of : List ℕ → Option ℕ
clock_of (t ∷ h1 ∷ h0 ∷ c ∷ n1 ∷ n0 ∷ end) =
    if bytes_eq (t ∷ c ∷ []) (codes "T:") && (bytes_eq end (codes "Z") || bytes_eq end (codes ":00Z"))
    then option_and_then (λ h. option_and_then (λ n. minute_of_day h n) (number_of (n1 ∷ n0 ∷ []))) (number_of (h1 ∷ h0 ∷ []))
    else None
clock_of text = None

abbrev pub in_range : ℕ → Option ℕ
in_range t = if is_from_to first_instant last_instant t then Some t else None

-- the minute of a day and a clock's text, from 1971 to 2199
abbrev pub dated_minute_of : List ℕ → Option ℕ
dated_minute_of text = option_and_then (λ day. option_and_then (λ n. in_range (1440 * day + n)) (clock_of (drop 10 text)))
    (day_of_text (take 10 text))

-- an instant as a Unix minute without a leading zero, or as the text of a day and a time in UTC
unfoldable pub instant_of : List ℕ → Option ℕ
instant_of text = option_or (minute_of text) (dated_minute_of text)

-- the last two decimal digits of a number
abbrev pub two_digits : ℕ → List ℕ
two_digits n = (48 + n / 10 % 10) ∷ (48 + n % 10) ∷ []

-- `YYYY-MM-DD`
abbrev pub date_text_of : CivilDate → List ℕ
date_text_of d = two_digits (d.year / 100) ++ two_digits d.year ++ codes "-" ++ two_digits d.month ++ codes "-" ++ two_digits d.day

-- `THH:MM`, of a minute of the day
abbrev pub clock_text_of : ℕ → List ℕ
clock_text_of n = codes "T" ++ two_digits (n / 60) ++ codes ":" ++ two_digits (n % 60)

-- `YYYY-MM-DDTHH:MM`
abbrev pub minute_text_of : ℕ → List ℕ
minute_text_of t = date_text_of (date_on (t / 1440)) ++ clock_text_of (t % 1440)

-- `YYYY-MM-DDTHH:MMZ`
unfoldable pub instant_text_of : ℕ → List ℕ
instant_text_of t = minute_text_of t ++ codes "Z"

-- the texts of an instant: its day and time without seconds, the same with `:00`, and its Unix minute
abbrev pub IsTextOf : ℕ → List ℕ → Type 0
IsTextOf t text = (text ≡ instant_text_of t) ⊎ ((text ≡ minute_text_of t ++ codes ":00Z") ⊎ (text ≡ decimal t))
