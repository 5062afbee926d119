use Rattle.state_dominance.proofs.Served.{serving_simulates, serving_fits, serving_staged, serving_best}
use Rattle.state_dominance.proofs.laws.servings_simulate.Goals as goal

pub returns-clause-simulates : goal.returns-clause-simulates
returns-clause-simulates c = λ services r few sim. serving_simulates services r few sim

pub returns-clause-fits : goal.returns-clause-fits
returns-clause-fits c = λ services r few fit. serving_fits services r few fit

pub returns-clause-staged : goal.returns-clause-staged
returns-clause-staged c = λ services r few. serving_staged services r few

pub returns-clause-best : goal.returns-clause-best
returns-clause-best c = λ services r least. serving_best services r least
