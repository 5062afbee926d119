use Rattle.std.proofs.Common.{refl, arith}
use Rattle.calendar_days.proofs.DayNumbers.{is_on}
use Rattle.calendar_days.proofs.days.date_of.Goals as goal

pub overflow_cast-result : goal.overflow_cast-result
overflow_cast-result c =
    let on = is_on c.args.day c.calendar_day-date.result c.requires c.calendar_day-date.ensures in
    rw on.year (tt, omega (arith, on.early))

pub returns-clause-value : goal.returns-clause-value
returns-clause-value c =
    let on = is_on c.args.day c.calendar_day-date.result c.requires c.calendar_day-date.ensures in
    rw (on.year, on.month, on.day) refl

pub returns-clause-date : goal.returns-clause-date
returns-clause-date c =
    let on = is_on c.args.day c.calendar_day-date.result c.requires c.calendar_day-date.ensures in
    rw (on.year, on.month, on.day) on.date

pub returns-clause-number : goal.returns-clause-number
returns-clause-number c =
    let on = is_on c.args.day c.calendar_day-date.result c.requires c.calendar_day-date.ensures in
    rw (on.year, on.month, on.day) on.number
