use Rattle.std.proofs.Common.{arith}
use Rattle.cost_functions.proofs.Slopes.{within_slack}
use Rattle.certificate_check.proofs.breaks.held_for.Goals as goal

pub returns-else-slope-other-clause-held : goal.returns-else-slope-other-clause-held
returns-else-slope-other-clause-held c = λ x upto. within_slack c.args.slack c.args.slope c.args.other x (omega arith) (omega arith)
