use Rattle.conditional_rules.proofs.ComputedClauses.{conditional_of_is}
use Rattle.conditional_rules.proofs.laws.computed_reading.Goals as goal

pub returns : goal.returns
returns c = conditional_of_is
