use Rattle.state_dominance.proofs.NotRuled.{simulates, fitting, staged, has_best}
use Rattle.state_dominance.proofs.laws.no_rule_simulates.Goals as goal

pub returns-clause-simulates : goal.returns-clause-simulates
returns-clause-simulates c = simulates

pub returns-clause-fits : goal.returns-clause-fits
returns-clause-fits c = fitting

pub returns-clause-staged : goal.returns-clause-staged
returns-clause-staged c = staged

pub returns-clause-best : goal.returns-clause-best
returns-clause-best c = has_best
