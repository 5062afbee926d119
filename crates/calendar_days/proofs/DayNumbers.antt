-- Day numbers from 1970 are those of jiff's calendar, name one date each, and follow one another.
use Rattle.std.proofs.Common.{◌≡◌, inl, inr, true, ℕ, zero, suc, ◌+◌, ◌-◌, ◌<◌, ◌≤◌, refl, sym, ap, ◌∙◌, arith, ℤ, pos, to_z, of_z, w16, w32}
use Rattle.std.specs.Int.{IsInRange}
use Rattle.std.proofs.lemmas.Bool.{cases_lt, lt-ltb, le-ltb}
use Rattle.jiff_core.specs.declared.civil.date.Date.{Date}
use Rattle.jiff_core.specs.Calendar as jiff
use Rattle.jiff_core.specs.Date.{epoch_day}
use Rattle.jiff_core.proofs.SignedLemmas.{signed_arith, back_small}
use Rattle.jiff_core.proofs.CalendarLemmas.{day_count-epoch, day_count-next_year, day_count-day_of_year, day_of_year_bound}
use Rattle.jiff_core.proofs.CalendarLemmas.{days_from_civil-day_count, days_of_months_all}
use Rattle.jiff_core.proofs.DateLemmas.{epoch_day_injective}
use Rattle.calendar_days.specs.declared.days.CivilDate.{CivilDate}
use Rattle.calendar_days.specs.Days.{days_of_year, days_of_month, days_of_years, days_of_months, date_from, is_date, day_number, next_date, date_on}

same_month : (y m : ℕ) → jiff.days_in_month (pos y) m ≡ days_of_month y m
same_month y m = refl

same_year : (y : ℕ) → jiff.days_in_year (pos y) ≡ days_of_year y
same_year y = refl

same_months : (y n : ℕ) → jiff.days_of_months (pos y) n ≡ days_of_months y n
unfolding jiff.days_of_months days_of_months
same_months y zero = refl
same_months y (suc n) = ap (λ k. k + days_of_month y (suc n)) (same_months y n)

year_start : (n : ℕ) → jiff.day_count (pos (1970 + n)) 1 1 ≡ 4_371_953 + days_of_years n
unfolding days_of_years
year_start zero = day_count-epoch
year_start (suc n) =
    let next = day_count-next_year (pos (1970 + n)) (pos (1970 + suc n)) (omega (arith, signed_arith)) (omega (arith, signed_arith)) in
    omega (arith, next, year_start n, same_year (1970 + n))

-- a date that isn't before 1970
pub record IsFrom1970 (d : CivilDate) : Type 0 where
  pub year : 1970 ≤ d.year
  pub month : IsInRange 1 12 d.month
  pub day : IsInRange 1 (days_of_month d.year d.month) d.day

pub days_from_civil-day_number : (d : CivilDate) → IsFrom1970 d → jiff.days_from_civil (pos d.year) d.month d.day ≡ pos (day_number d)
days_from_civil-day_number d h =
    let n = d.year - 1970 in
    let y : 1970 + n ≡ d.year = omega (arith, h.year) in
    let start = rw y at (year_start n) in
    let place = day_count-day_of_year (pos d.year) d.month d.day h.day.0 in
    omega (arith, signed_arith, days_from_civil-day_count (pos d.year) d.month d.day, start, place, same_months d.year (d.month - 1), h.day.0)

civil : (d : CivilDate) → IsFrom1970 d → d.year ≤ 9999 → jiff.IsCivilDate (pos d.year) d.month d.day
civil d h small = ((omega (arith, signed_arith), omega (arith, signed_arith)), h.month, h.day)

-- the date as jiff has it
jiff_date : (d : CivilDate) → IsFrom1970 d → d.year ≤ 9999 → Date
jiff_date d h small = let c = civil d h small in
    record { year = pos d.year; month = d.month; day = d.day; year_in = c.0; month_in = c.1; day_in = c.2 }

pub as_jiff : (d : CivilDate) (j : Date) → IsFrom1970 d → d.year ≤ 9999 → epoch_day j ≡ pos (day_number d)
    → (j.year ≡ pos d.year) × (j.month ≡ d.month) × (j.day ≡ d.day)
unfolding jiff_date
as_jiff d j h small e = epoch_day_injective j (jiff_date d h small) (e ∙ sym (days_from_civil-day_number d h))

days_of_years-add : (n k : ℕ) → days_of_years n ≤ days_of_years (n + k)
unfolding days_of_years
days_of_years-add n zero = let same : n + 0 ≡ n = omega arith in rw same (omega arith)
days_of_years-add n (suc k) =
    let next : n + suc k ≡ suc (n + k) = omega arith in rw next (omega (arith, days_of_years-add n k))

days_of_years-rise : (n m : ℕ) → n ≤ m → days_of_years n ≤ days_of_years m
days_of_years-rise n m h = let same : n + (m - n) ≡ m = omega (arith, h) in rw same at (days_of_years-add n (m - n))

to_2200 : days_of_years 231 ≡ 84371
unfolding days_of_years
to_2200 = refl

within_year : (d : CivilDate) → IsFrom1970 d → d.year ≤ 9999 → day_number d + 1 ≤ days_of_years (d.year - 1970) + days_of_year d.year
within_year d h small =
    let place = day_of_year_bound (pos d.year) d.month d.day (civil d h small) in
    omega (arith, place, same_months d.year (d.month - 1), same_year d.year, h.day.0)

days_of_years-more : (n : ℕ) → days_of_years (suc n) ≡ days_of_years n + days_of_year (1970 + n)
unfolding days_of_years
days_of_years-more n = refl

-- dates of the years 1970 to 2200 have the day numbers from 0 to 84370
pub day_number-small : (d : CivilDate) → IsFrom1970 d → d.year ≤ 2200 → day_number d ≤ 84370
day_number-small d h small =
    let n = d.year - 1970 in
    let y : 1970 + n ≡ d.year = omega (arith, h.year) in
    let more = rw y at (days_of_years-more n) in
    omega (arith, within_year d h (omega (arith, small)), more, days_of_years-rise (suc n) 231 (omega (arith, small)), to_2200)

pub year-small : (d : CivilDate) → IsFrom1970 d → day_number d ≤ 84370 → d.year ≤ 2200
year-small d h small =
    elim (cases_lt 2200 d.year) [
      | inl late ↦ absurd (omega (arith, small, late, days_of_years-rise 231 (d.year - 1970) (omega (arith, late)), to_2200))
      | inr early ↦ early
    ]

pub is_date-proper : (d : CivilDate) → is_date d ≡ true → IsFrom1970 d × (d.year ≤ 2200)
is_date-proper d h = grind arith

pub proper-is_date : (d : CivilDate) → IsFrom1970 d → d.year ≤ 2200 → is_date d ≡ true
proper-is_date d h small = grind arith

days_of_months-more : (y m : ℕ) → 1 ≤ m → days_of_months y m ≡ days_of_months y (m - 1) + days_of_month y m
unfolding days_of_months
days_of_months-more y zero h = absurd (omega arith)
days_of_months-more y (suc m) h = let back : suc m - 1 ≡ m = omega arith in rw back refl

pub month_bounds : (y m : ℕ) → (28 ≤ days_of_month y m) × (days_of_month y m ≤ 31)
month_bounds y m = grind arith

-- a date from 1970 on, of this day number
abbrev pub IsDateOf : ℕ → CivilDate → Type 0
IsDateOf n d = IsFrom1970 d × (day_number d ≡ n)

next_day : (d : CivilDate) → IsFrom1970 d → d.day < days_of_month d.year d.month → IsDateOf (day_number d + 1) (date_from d.year d.month (d.day + 1))
next_day d h more = (record { year = h.year; month = h.month; day = (omega arith, omega (arith, more)) }, omega (arith, h.day.0))

next_month : (d : CivilDate) → IsFrom1970 d → days_of_month d.year d.month ≤ d.day → d.month < 12
    → IsDateOf (day_number d + 1) (date_from d.year (d.month + 1) 1)
next_month d h last more =
    let back : d.month + 1 - 1 ≡ d.month = omega arith in (
      record { year = h.year; month = (omega arith, omega (arith, more)); day = (omega arith, omega (arith, month_bounds d.year (d.month + 1))) },
      rw back (omega (arith, h.day, last, days_of_months-more d.year d.month h.month.0)),
    )

next_year : (d : CivilDate) → IsFrom1970 d → days_of_month d.year d.month ≤ d.day → 12 ≤ d.month
    → IsDateOf (day_number d + 1) (date_from (d.year + 1) 1 1)
next_year d h last end =
    let n = d.year - 1970 in
    let y : 1970 + n ≡ d.year = omega (arith, h.year) in
    let more = rw y at (days_of_years-more n) in
    let back : d.year + 1 - 1970 ≡ suc n = omega (arith, h.year) in
    let december : d.month ≡ 12 = omega (arith, h.month.1, end) in
    let all = sym (same_months d.year 12) ∙ days_of_months_all (pos d.year) ∙ same_year d.year in
    let none : days_of_months (d.year + 1) (1 - 1) ≡ 0 = unfold days_of_months in refl in (
      record { year = omega (arith, h.year); month = (omega arith, omega arith); day = (omega arith, omega (arith, month_bounds (d.year + 1) 1)) },
      rw back (omega (arith, h.day, last, more, all, none, days_of_months-more d.year d.month h.month.0, ap (λ m. days_of_months d.year m) december)),
    )

next_date-is : (d : CivilDate) → IsFrom1970 d → IsDateOf (day_number d + 1) (next_date d)
next_date-is d h =
    elim (cases_lt d.day (days_of_month d.year d.month)) [
      | inl more ↦ rw (lt-ltb _ _ more) (next_day d h more)
      | inr last ↦ elim (cases_lt d.month 12) [
        | inl more ↦ rw (le-ltb _ _ last, lt-ltb _ _ more) (next_month d h last more)
        | inr end ↦ rw (le-ltb _ _ last, le-ltb _ _ end) (next_year d h last end)
      ]
    ]

-- the date of a day number has that day number
pub date_on-is : (n : ℕ) → IsDateOf n (date_on n)
unfolding date_on
date_on-is zero = (
  record {
    year = omega arith;
    month = (omega arith, omega arith);
    day =
        (omega arith, omega arith);
  },
  unfold days_of_years days_of_months in refl,
)
date_on-is (suc n) =
    let before = date_on-is n in
    let after = next_date-is (date_on n) before.0 in
    (after.0, after.1 ∙ omega (arith, before.1))

-- dates with one day number are one
pub day_number-injective : (a b : CivilDate) → IsFrom1970 a → IsFrom1970 b → day_number a ≡ day_number b → a.year ≤ 9999 → b.year ≤ 9999 → a ≡ b
unfolding jiff_date
day_number-injective a b h k e small little =
    let same = as_jiff b (jiff_date a h small) k little (days_from_civil-day_number a h ∙ ap pos e) in
    same_parts a b (omega (arith, signed_arith, same.0)) same.1 same.2
  where
    same_parts : (a b : CivilDate) → a.year ≡ b.year → a.month ≡ b.month → a.day ≡ b.day → a ≡ b
    same_parts a b y m d = ap (λ w. date_from w a.month a.day) y ∙ ap (λ w. date_from b.year w a.day) m ∙ ap (λ w. date_from b.year b.month w) d

-- small numbers come back from their bits
pub back_from_32 : (z : ℤ) (n : ℕ) → z ≡ pos n → n ≤ 84370 → to_z w32 (of_z w32 z) ≡ pos n
back_from_32 z n e small = rw e (back_small w32 (pos n) (omega (arith, small)))

pub year_in_16 : (y : ℕ) → y ≤ 2200 → to_z w16 y ≡ pos y
year_in_16 y small = back_small w16 (pos y) (omega (arith, small))

-- the facts of a date of the years 1970 to 2200
pub record HasNumber (d : CivilDate) : Type 0 where
  pub number : jiff.days_from_civil (pos d.year) d.month d.day ≡ pos (day_number d)
  pub small : day_number d ≤ 84370
  pub back : date_on (day_number d) ≡ d

pub has_number : (d : CivilDate) → is_date d ≡ true → HasNumber d
has_number d h =
    let proper = is_date-proper d h in
    let small = day_number-small d proper.0 proper.1 in
    let on = date_on-is (day_number d) in
    let early = year-small (date_on (day_number d)) on.0 (omega (arith, on.1, small)) in
    record {
      number = days_from_civil-day_number d proper.0;
      small = small;
      back = day_number-injective _ d on.0 proper.0 on.1 (omega (arith, early)) (omega (arith, proper.1));
    }

-- the facts of jiff's date of a day number up to 84370
pub record IsOn (n : ℕ) (j : Date) : Type 0 where
  pub date : is_date (date_on n) ≡ true
  pub number : day_number (date_on n) ≡ n
  pub year : to_z w16 (of_z w16 j.year) ≡ pos (date_on n).year
  pub early : (date_on n).year ≤ 2200
  pub month : j.month ≡ (date_on n).month
  pub day : j.day ≡ (date_on n).day

pub is_on : (n : ℕ) (j : Date) → n ≤ 84370 → epoch_day j ≡ pos n → IsOn n j
is_on n j small e =
    let on = date_on-is n in
    let early = year-small (date_on n) on.0 (omega (arith, on.1, small)) in
    let same = as_jiff (date_on n) j on.0 (omega (arith, early)) (e ∙ ap pos (sym on.1)) in
    record {
      date = proper-is_date (date_on n) on.0 early;
      number = on.1;
      year =
          rw same.0 (year_in_16 (date_on n).year early);
      early = early;
      month = same.1;
      day = same.2;
    }
