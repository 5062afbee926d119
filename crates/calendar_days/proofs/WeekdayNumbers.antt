-- The weekday of a day number by its remainder.
use Rattle.std.proofs.Common.{◌≡◌, ℕ, zero, suc, ◌+◌, ◌%◌, refl, sym, ap, ◌∙◌, arith, pos}
use Rattle.jiff_core.specs.Calendar.{weekday_number}
use Rattle.jiff_core.proofs.SignedLemmas.{signed_arith}
use Rattle.jiff_core.proofs.CalendarLemmas.{weekday_number-parts}
use Rattle.calendar_days.specs.declared.weekday.Weekday.{Weekday}
use Rattle.calendar_days.specs.declared.weekday.Weekday.TheVariants.{Mo, Tu, We, Th, Fr, Sa, Su}
use Rattle.calendar_days.specs.Weekdays.{index_of, next_weekday, weekday_on}

index_of-next : (w : Weekday) → index_of (next_weekday w) ≡ (index_of w + 1) % 7
index_of-next Mo = refl
index_of-next Tu = refl
index_of-next We = refl
index_of-next Th = refl
index_of-next Fr = refl
index_of-next Sa = refl
index_of-next Su = refl

weekday_at : ℕ → Weekday
weekday_at zero = Mo
weekday_at (suc zero) = Tu
weekday_at (suc (suc zero)) = We
weekday_at (suc (suc (suc zero))) = Th
weekday_at (suc (suc (suc (suc zero)))) = Fr
weekday_at (suc (suc (suc (suc (suc zero))))) = Sa
weekday_at (suc (suc (suc (suc (suc (suc n)))))) = Su

weekday_at-index : (w : Weekday) → weekday_at (index_of w) ≡ w
unfolding weekday_at
weekday_at-index Mo = refl
weekday_at-index Tu = refl
weekday_at-index We = refl
weekday_at-index Th = refl
weekday_at-index Fr = refl
weekday_at-index Sa = refl
weekday_at-index Su = refl

index_of-weekday_on : (n : ℕ) → index_of (weekday_on n) ≡ (n + 3) % 7
unfolding weekday_on
index_of-weekday_on zero = refl
index_of-weekday_on (suc n) = omega (arith, index_of-next (weekday_on n), index_of-weekday_on n)

-- a weekday of jiff's number for the day is the day's
pub is_weekday_on : (n : ℕ) (w : Weekday) → index_of w ≡ weekday_number (pos n) → w ≡ weekday_on n
is_weekday_on n w e =
    let same : index_of w ≡ index_of (weekday_on n) = omega (arith, signed_arith, e, weekday_number-parts (pos n), index_of-weekday_on n) in
    sym (weekday_at-index w) ∙ ap weekday_at same ∙ weekday_at-index (weekday_on n)
