-- Dates and their day numbers, day 0 being 1970-01-01 (source: ISO 8601, the proleptic Gregorian calendar).
use Rattle.std.specs.Prelude.{ℕ, zero, suc, ◌+◌, ◌-◌, ◌%◌, ◌==◌, ◌&&◌, ◌||◌, Bool, not, nat_le, nat_lt, Option, Some, None, if◌then◌else◌}
use Rattle.calendar_days.specs.declared.days.CivilDate.{CivilDate}

-- every fourth year has 366 days, but of the centuries only every fourth
abbrev pub is_leap : ℕ → Bool
is_leap y = y % 4 == 0 && (not (y % 100 == 0) || y % 400 == 0)

abbrev pub days_of_year : ℕ → ℕ
days_of_year y = if is_leap y then 366 else 365

-- thirty days have September, April, June and November
abbrev pub days_of_month : ℕ → ℕ → ℕ
days_of_month y m =
    if m == 2 then (if is_leap y then 29 else 28)
    else if m == 4 || m == 6 || m == 9 || m == 11 then 30
    else 31

-- the days of the first n years from 1970 on
unfoldable pub days_of_years : ℕ → ℕ
days_of_years zero = 0
days_of_years (suc n) = days_of_years n + days_of_year (1970 + n)

-- the days of the first n months of a year
unfoldable pub days_of_months : ℕ → ℕ → ℕ
days_of_months y zero = 0
days_of_months y (suc n) = days_of_months y n + days_of_month y (suc n)

abbrev pub date_from : ℕ → ℕ → ℕ → CivilDate
date_from y m d = record { year = y; month = m; day = d }

-- a date of the years 1970 to 2200
abbrev pub is_date : CivilDate → Bool
is_date d = nat_le 1970 d.year && nat_le d.year 2200 && nat_le 1 d.month && nat_le d.month 12 && nat_le 1 d.day
    && nat_le d.day (days_of_month d.year d.month)

-- the days of its month after a date
abbrev pub later_days : CivilDate → ℕ
later_days d = days_of_month d.year d.month - d.day

-- the days of the whole years and months before a date, and of its month before it
abbrev pub day_number : CivilDate → ℕ
day_number d = days_of_years (d.year - 1970) + days_of_months d.year (d.month - 1) + (d.day - 1)

-- the day number of a year, a month and a day, where they are a date
abbrev pub day_of_parts : ℕ → ℕ → ℕ → Option ℕ
day_of_parts y m d = if is_date (date_from y m d) then Some (day_number (date_from y m d)) else None

-- the date of the next day
abbrev pub next_date : CivilDate → CivilDate
next_date d =
    if nat_lt d.day (days_of_month d.year d.month) then date_from d.year d.month (d.day + 1)
    else if nat_lt d.month 12 then date_from d.year (d.month + 1) 1
    else date_from (d.year + 1) 1 1

-- the date of a day number, one day after another
unfoldable pub date_on : ℕ → CivilDate
date_on zero = date_from 1970 1 1
date_on (suc d) = next_date (date_on d)
