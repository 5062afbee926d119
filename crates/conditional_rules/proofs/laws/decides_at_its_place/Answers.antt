use Rattle.conditional_rules.specs.Decisions.{clause_holds}
use Rattle.conditional_rules.proofs.LastPlace.{given_at_last}
use Rattle.conditional_rules.proofs.laws.decides_at_its_place.Goals as goal

pub returns : goal.returns
returns c = λ vehicle holidays day minute clauses. given_at_last (clause_holds vehicle holidays day minute) (λ c. c.access) clauses
