use Rattle.std.proofs.Common.{rules}
use Rattle.calendar_days.proofs.InstantForms.{reads_date, finds_date}
use Rattle.calendar_days.proofs.instants.read_date.Goals as goal

pub returns-clause-only : goal.returns-clause-only
returns-clause-only c = reads_date c.ok_or.result c.args.bytes.now (search rules)

pub returns-clause-found : goal.returns-clause-found
returns-clause-found c = finds_date c.ok_or.result c.args.bytes.now (search rules)
