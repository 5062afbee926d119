use Rattle.state_dominance.proofs.OneRuled.{simulates, fitting, staged, has_best}
use Rattle.state_dominance.proofs.laws.one_rule_simulates.Goals as goal

pub returns-clause-simulates : goal.returns-clause-simulates
returns-clause-simulates c = λ drive rest. simulates drive rest

pub returns-clause-fits : goal.returns-clause-fits
returns-clause-fits c = λ drive rest. fitting drive rest

pub returns-clause-staged : goal.returns-clause-staged
returns-clause-staged c = λ drive rest. staged drive rest

pub returns-clause-best : goal.returns-clause-best
returns-clause-best c = λ drive rest. has_best drive rest
