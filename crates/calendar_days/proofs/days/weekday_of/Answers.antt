use Rattle.std.proofs.Common.{◌∙◌, ap}
use Rattle.jiff_core.specs.Calendar.{weekday_number}
use Rattle.calendar_days.proofs.WeekdayNumbers.{is_weekday_on}
use Rattle.calendar_days.proofs.days.weekday_of.Goals as goal

pub returns : goal.returns
returns c =
    is_weekday_on c.args.day c.weekday_from.result (c.weekday_from.ensures ∙ c.weekday.ensures ∙ ap weekday_number c.calendar_day.ensures)
