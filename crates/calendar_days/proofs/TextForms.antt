-- The texts of dates and instants are read, and only they are.
use Rattle.std.proofs.Common.{◌≡◌, ◌⊎◌, inl, inr, ℕ, ◌+◌, ◌*◌, ◌/◌, ◌%◌, ◌<◌, ◌≤◌, ltb, ◌&&◌, ◌||◌, true, Some, List, [], ◌∷◌, ◌++◌, refl, ap, ◌∙◌, arith}
use Rattle.std.specs.Prelude.{codes, bytes_eq, option_and_then, nat_lt}
use Rattle.std.proofs.lemmas.Bool.{and_parts, or_cases, ltb-true, lt-ltb}
use Rattle.std.proofs.lemmas.Option.{same_Some}
use Rattle.std.proofs.lemmas.Slice.Eq.{bytes_eq-Decides}
use Rattle.route_base.specs.Digits.{number_of}
use Rattle.route_base.proofs.Logic.{behind_test, then_some}
use Rattle.calendar_days.specs.declared.days.CivilDate.{CivilDate}
use Rattle.calendar_days.specs.Days.{is_date, day_number, date_from, date_on, day_of_parts}
use Rattle.calendar_days.specs.Texts.{day_of_text, minute_of_day, clock_of, two_digits, date_text_of, clock_text_of}
use Rattle.calendar_days.proofs.DayNumbers.{has_number, is_date-proper, month_bounds}
use Rattle.calendar_days.proofs.DigitForms.{two_digits-number, four_digits-number, two_digits-only, four_digits-only}

-- the text of a date is read as its day
pub date_text-read : (d : CivilDate) → is_date d ≡ true → day_of_text (date_text_of d) ≡ Some (day_number d)
unfolding day_of_text
date_text-read d h =
    let proper = is_date-proper d h in
    let day : d.day ≤ 99 = omega (arith, proper.0.day.1, month_bounds d.year d.month) in
    rw (
      four_digits-number d.year (omega (arith, proper.1)),
      two_digits-number d.month
          (omega (arith, proper.0.month.1)),
      two_digits-number d.day day,
      h,
    ) refl

parts_only : (y m d n : ℕ) → day_of_parts y m d ≡ Some n → (is_date (date_from y m d) ≡ true) × (day_number (date_from y m d) ≡ n)
parts_only y m d n e = let h = behind_test (is_date (date_from y m d)) (Some (day_number (date_from y m d))) n e in
    (h.0, same_Some (day_number (date_from y m d)) n h.1)

dashes : (a b : ℕ) → bytes_eq (a ∷ b ∷ []) (codes "--") ≡ true → (a ≡ 45) × (b ≡ 45)
dashes a b e = let same = (bytes_eq-Decides (a ∷ b ∷ []) (codes "--")).0 e in (cc, cc)

written : (y3 y2 y1 y0 a m1 m0 b d1 d0 y m d : ℕ) → (a ≡ 45) × (b ≡ 45) → number_of (y3 ∷ y2 ∷ y1 ∷ y0 ∷ []) ≡ Some y
    → number_of (m1 ∷ m0 ∷ []) ≡ Some m → number_of (d1 ∷ d0 ∷ []) ≡ Some d
    → y3 ∷ y2 ∷ y1 ∷ y0 ∷ a ∷ m1 ∷ m0 ∷ b ∷ d1 ∷ d0 ∷ [] ≡ date_text_of (date_from y m d)
written y3 y2 y1 y0 a m1 m0 b d1 d0 y m d marks is_y is_m is_d =
    let year = four_digits-only y3 y2 y1 y0 y is_y in
    let month = two_digits-only m1 m0 m is_m in
    let day = two_digits-only d1 d0 d is_d in
    rw (year.1, year.2, year.3, year.4, month.1, month.2, day.1, day.2, marks.0, marks.1) refl

on_date : (text : List ℕ) (d e : CivilDate) → text ≡ date_text_of d → e ≡ d → text ≡ date_text_of e
on_date text d e is same = rw same is

-- and only it
pub date_text-only : (text : List ℕ) (n : ℕ) → day_of_text text ≡ Some n → (n ≤ 84370) × (text ≡ date_text_of (date_on n))
unfolding day_of_text
date_text-only (y3 ∷ y2 ∷ y1 ∷ y0 ∷ a ∷ m1 ∷ m0 ∷ b ∷ d1 ∷ d0 ∷ []) n e =
    let marked = behind_test (bytes_eq (a ∷ b ∷ []) (codes "--"))
    (option_and_then (λ y. option_and_then (λ m. option_and_then (λ d. day_of_parts y m d) (number_of (d1 ∷ d0 ∷ [])))
    (number_of (m1 ∷ m0 ∷ []))) (number_of (y3 ∷ y2 ∷ y1 ∷ y0 ∷ []))) n e in
    let year = then_some (number_of (y3 ∷ y2 ∷ y1 ∷ y0 ∷ [])) (λ y. option_and_then (λ m. option_and_then (λ d. day_of_parts y m d) (number_of (d1 ∷ d0 ∷ [])))
    (number_of (m1 ∷ m0 ∷ []))) n marked.1 in
    let month = then_some (number_of (m1 ∷ m0 ∷ [])) (λ m. option_and_then (λ d. day_of_parts year.0 m d) (number_of (d1 ∷ d0 ∷ []))) n year.2 in
    let day = then_some (number_of (d1 ∷ d0 ∷ [])) (λ d. day_of_parts year.0 month.0 d) n month.2 in
    let parts = parts_only year.0 month.0 day.0 n day.2 in
    let has = has_number (date_from year.0 month.0 day.0) parts.0 in
    let date : date_on n ≡ date_from year.0 month.0 day.0 = rw parts.1 at has.back in
    let text : y3 ∷ y2 ∷ y1 ∷ y0 ∷ a ∷ m1 ∷ m0 ∷ b ∷ d1 ∷ d0 ∷ [] ≡ date_text_of (date_from year.0 month.0 day.0) =
    written y3 y2 y1 y0 a m1 m0 b d1 d0 year.0 month.0 day.0 (dashes a b marked.0) year.1 month.1 day.1 in (
      omega (arith, has.small, parts.1),
      on_date (y3 ∷ y2 ∷ y1 ∷ y0 ∷ a ∷ m1 ∷ m0 ∷ b ∷ d1 ∷ d0 ∷ [])
          (date_from year.0 month.0 day.0) (date_on n) text date,
    )
date_text-only text n e = absurd (cc)

-- the numbers of a clock, and that they are of a day
clock_parts : (n : ℕ) → n < 1440 → (number_of (two_digits (n / 60)) ≡ Some (n / 60)) × (number_of (two_digits (n % 60)) ≡ Some (n % 60))
    × (ltb (n / 60) 24 ≡ true) × (ltb (n % 60) 60 ≡ true) × (60 * (n / 60) + n % 60 ≡ n)
clock_parts n small = (
  two_digits-number (n / 60) (omega (arith, small)),
  two_digits-number (n % 60) (omega arith),
  lt-ltb (n / 60) 24 (omega (arith, small)),
  lt-ltb (n % 60) 60 (omega arith),
  omega arith,
)

pub clock_text-read : (n : ℕ) (end : List ℕ) → n < 1440 → (end ≡ codes "Z") ⊎ (end ≡ codes ":00Z") → clock_of (clock_text_of n ++ end) ≡ Some n
unfolding clock_of
clock_text-read n end small (inl z) = let parts = clock_parts n small in rw (z, parts.0, parts.1, parts.2, parts.3, parts.4) refl
clock_text-read n end small (inr z) = let parts = clock_parts n small in rw (z, parts.0, parts.1, parts.2, parts.3, parts.4) refl

clock_written : (t h1 h0 c n1 n0 h n : ℕ) → (t ≡ 84) × (c ≡ 58) → number_of (h1 ∷ h0 ∷ []) ≡ Some h
    → number_of (n1 ∷ n0 ∷ []) ≡ Some n → t ∷ h1 ∷ h0 ∷ c ∷ n1 ∷ n0 ∷ [] ≡ codes "T" ++ two_digits h ++ codes ":" ++ two_digits n
clock_written t h1 h0 c n1 n0 h n marks is_h is_n =
    let hour = two_digits-only h1 h0 h is_h in
    let minute = two_digits-only n1 n0 n is_n in
    rw (hour.1, hour.2, minute.1, minute.2, marks.0, marks.1) refl

clock_marks : (a b : ℕ) → bytes_eq (a ∷ b ∷ []) (codes "T:") ≡ true → (a ≡ 84) × (b ≡ 58)
clock_marks a b e = let same = (bytes_eq-Decides (a ∷ b ∷ []) (codes "T:")).0 e in (cc, cc)

minute_only : (h m n : ℕ) → minute_of_day h m ≡ Some n → (n < 1440) × (h ≡ n / 60) × (m ≡ n % 60)
minute_only h m n e =
    let parts = behind_test (nat_lt h 24 && nat_lt m 60) (Some (60 * h + m)) n e in
    let small = and_parts (nat_lt h 24) (nat_lt m 60) parts.0 in
    let hour = ltb-true h 24 small.0 in
    let minute = ltb-true m 60 small.1 in
    let value = same_Some (60 * h + m) n parts.1 in
    (omega (arith, hour, minute, value), omega (arith, hour, minute, value), omega (arith, hour, minute, value))

pub clock_text-only : (text : List ℕ) (n : ℕ) → clock_of text ≡ Some n → (n < 1440)
    × ((text ≡ clock_text_of n ++ codes "Z") ⊎ (text ≡ clock_text_of n ++ codes ":00Z"))
unfolding clock_of
clock_text-only (t ∷ h1 ∷ h0 ∷ c ∷ n1 ∷ n0 ∷ end) n e =
    let marked = behind_test (bytes_eq (t ∷ c ∷ []) (codes "T:") && (bytes_eq end (codes "Z") || bytes_eq end (codes ":00Z")))
    (option_and_then (λ h. option_and_then (λ n. minute_of_day h n) (number_of (n1 ∷ n0 ∷ []))) (number_of (h1 ∷ h0 ∷ []))) n e in
    let parts = and_parts (bytes_eq (t ∷ c ∷ []) (codes "T:")) (bytes_eq end (codes "Z") || bytes_eq end (codes ":00Z")) marked.0 in
    let hour = then_some (number_of (h1 ∷ h0 ∷ [])) (λ h. option_and_then (λ n. minute_of_day h n) (number_of (n1 ∷ n0 ∷ []))) n marked.1 in
    let minute = then_some (number_of (n1 ∷ n0 ∷ [])) (λ n. minute_of_day hour.0 n) n hour.2 in
    let is = minute_only hour.0 minute.0 n minute.2 in
    let clock : t ∷ h1 ∷ h0 ∷ c ∷ n1 ∷ n0 ∷ [] ≡ clock_text_of n =
    clock_written t h1 h0 c n1 n0 (n / 60) (n % 60) (clock_marks t c parts.0) (hour.1 ∙ ap (λ k. Some k) is.1) (minute.1
    ∙ ap (λ k. Some k) is.2) in (
      is.0,
      elim (or_cases (bytes_eq end (codes "Z")) (bytes_eq end (codes ":00Z")) parts.1) [
        | inl z ↦ inl (ended (t ∷ h1 ∷ h0 ∷ c ∷ n1 ∷ n0 ∷ []) (clock_text_of n) end (codes "Z") clock z)
        | inr z ↦ inr (ended (t ∷ h1 ∷ h0 ∷ c ∷ n1 ∷ n0 ∷ []) (clock_text_of n) end (codes ":00Z") clock z)
      ],
    )
  where
    ended : (xs ys end mark : List ℕ) → xs ≡ ys → bytes_eq end mark ≡ true → xs ++ end ≡ ys ++ mark
    ended xs ys end mark same z = rw (same, (bytes_eq-Decides end mark).0 z) refl
clock_text-only text n e = absurd (cc)
