-- Weekdays and their order, Monday first (source: ISO 8601).
use Rattle.std.specs.Prelude.{ℕ, zero, suc, ◌+◌, ◌-◌, ◌%◌}
use Rattle.calendar_days.specs.declared.weekday.Weekday.{Weekday}
use Rattle.calendar_days.specs.declared.weekday.Weekday.TheVariants.{Mo, Tu, We, Th, Fr, Sa, Su}

-- Monday is 0 and Sunday is 6
abbrev pub index_of : Weekday → ℕ
index_of Mo = 0
index_of Tu = 1
index_of We = 2
index_of Th = 3
index_of Fr = 4
index_of Sa = 5
index_of Su = 6

-- the days from one weekday forward to another, 0 to 6
abbrev pub days_forward : Weekday → Weekday → ℕ
days_forward a b = (index_of b + 7 - index_of a) % 7

abbrev pub next_weekday : Weekday → Weekday
next_weekday Mo = Tu
next_weekday Tu = We
next_weekday We = Th
next_weekday Th = Fr
next_weekday Fr = Sa
next_weekday Sa = Su
next_weekday Su = Mo

-- the weekday of a day number: day 0 is a Thursday, and each day moves forward by one
unfoldable pub weekday_on : ℕ → Weekday
weekday_on zero = Th
weekday_on (suc d) = next_weekday (weekday_on d)
