use Rattle.std.proofs.Common.{◌≡◌, ◌∙◌, ap, refl, arith, pos, to_z, of_z, w32}
use Rattle.jiff_core.specs.Calendar.{days_from_civil}
use Rattle.calendar_days.specs.Days.{day_number}
use Rattle.calendar_days.proofs.DayNumbers.{HasNumber, has_number, is_date-proper, back_from_32, year_in_16}
use Rattle.calendar_days.proofs.days.day_number.Goals as goal

known : (c : goal.After-to_unix_epoch_day) → HasNumber c.args.date
known c = has_number c.args.date c.requires

back : (c : goal.After-to_unix_epoch_day) → to_z w32 (of_z w32 c.to_unix_epoch_day.result) ≡ pos (day_number c.args.date)
back c =
    let year = year_in_16 c.args.date.year (is_date-proper c.args.date c.requires).1 in
    let number = c.to_unix_epoch_day.ensures.value ∙ ap (λ y. days_from_civil y c.args.date.month c.args.date.day) year ∙ (known c).number in
    back_from_32 c.to_unix_epoch_day.result (day_number c.args.date) number (known c).small

pub overflow_cast-result : goal.overflow_cast-result
overflow_cast-result c = rw (back c) (tt, omega (arith, (known c).small))

pub returns-clause-value : goal.returns-clause-value
returns-clause-value c = rw (back c) refl

pub returns-clause-date : goal.returns-clause-date
returns-clause-date c = rw (back c) (known c).back

pub returns-clause-small : goal.returns-clause-small
returns-clause-small c = rw (back c) (known c).small
