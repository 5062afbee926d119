use Rattle.std.proofs.Common.{sym, arith}
use Rattle.calendar_days.proofs.Pieces.{no_day}
use Rattle.calendar_days.proofs.instants.read_day.Goals as goal

pub returns-in_default-clause-value : goal.returns-in_default-clause-value
returns-in_default-clause-value c = sym (no_day c.args.bytes.now (λ ten. omega (arith, c.in_default.len_below, ten)))

pub returns-in_default-2-clause-value : goal.returns-in_default-2-clause-value
returns-in_default-2-clause-value c = sym (no_day c.args.bytes.now (λ ten. omega (arith, c.in_default.len_at_least, ten)))
