use Rattle.conditional_rules.specs.Conditions as law
use Rattle.conditional_rules.proofs.parts.compared.Goals as goal

pub returns-in-Some-clause-found : goal.returns-in-Some-clause-found
returns-in-Some-clause-found c = law.compared c.requires c.in-Some.ensures.found
