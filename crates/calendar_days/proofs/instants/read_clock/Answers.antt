use Rattle.std.proofs.Common.{arith}
use Rattle.std.proofs.lemmas.Grind.{common_steps}
use Rattle.calendar_days.proofs.Pieces.{clock_by_place}
use Rattle.calendar_days.proofs.instants.read_clock.Goals as goal

pub returns-in_err-minute-in-len6-up-clause-value : goal.returns-in_err-minute-in-len6-up-clause-value
returns-in_err-minute-in-len6-up-clause-value c =
    let e = clock_by_place c.args.bytes.now c.in-len6-up.len_at_least in rw e (grind (arith, common_steps))

pub returns-in_ok-minute-in-len6-up-clause-value : goal.returns-in_ok-minute-in-len6-up-clause-value
returns-in_ok-minute-in-len6-up-clause-value c =
    let e = clock_by_place c.args.bytes.now c.in-len6-up.len_at_least in rw e (grind (arith, common_steps))

pub returns-then-not-is_end_of_clock-clause-value : goal.returns-then-not-is_end_of_clock-clause-value
returns-then-not-is_end_of_clock-clause-value c =
    let e = clock_by_place c.args.bytes.now c.in-len6-up.len_at_least in rw e (grind (arith, common_steps))
