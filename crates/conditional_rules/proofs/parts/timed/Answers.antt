use Rattle.std.proofs.Common.{Err, ap}
use Rattle.conditional_rules.specs.Conditions as law
use Rattle.conditional_rules.proofs.OnePart.{no_hours}
use Rattle.conditional_rules.proofs.parts.timed.Goals as goal

pub returns-in-Ok-clause-found : goal.returns-in-Ok-clause-found
returns-in-Ok-clause-found c = law.timed c.requires.no_sign c.requires.no_flag c.in-Ok.ensures.found

pub returns-in-Err-NotHours-clause-none : goal.returns-in-Err-NotHours-clause-none
returns-in-Err-NotHours-clause-none c = λ is part h.
    no_hours c.args.text.now c.requires.no_sign c.requires.no_flag (c.in-Err-NotHours.ensures.none (ap Err c.in-Err-NotHours.field-0-is)) part h
