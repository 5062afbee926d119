use Rattle.std.proofs.Common.{Err, ap, ◌∙◌, arith}
use Rattle.opening_hours.proofs.ComputedHours.{hours_computed, hours_of_is_none}
use Rattle.network_tables.specs.Parking.{hours_or_cause}
use Rattle.network_tables.proofs.ParkLists.{text_in_field}
use Rattle.network_tables.proofs.parking.read_hours.Goals as goal

pub returns-in-Ok-clause-value : goal.returns-in-Ok-clause-value
returns-in-Ok-clause-value c =
    text_in_field c.args.text.now c.requires (omega (arith, c.if-text-gt-LONGEST_RULE.false))
    ∙ ap hours_or_cause (hours_computed c.args.text.now c.in-Ok.hours c.in-Ok.ensures.found)

pub returns-in-Err-NotHours-clause-refused : goal.returns-in-Err-NotHours-clause-refused
returns-in-Err-NotHours-clause-refused c =
    text_in_field c.args.text.now c.requires (omega (arith, c.if-text-gt-LONGEST_RULE.false))
    ∙ ap hours_or_cause ((hours_of_is_none c.args.text.now).1 (c.in-Err-NotHours.ensures.none (ap Err c.in-Err-NotHours.field-0-is)))
