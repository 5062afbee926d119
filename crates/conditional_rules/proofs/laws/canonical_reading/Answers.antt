use Rattle.conditional_rules.proofs.CanonicalReading.{canonical_again}
use Rattle.conditional_rules.proofs.laws.canonical_reading.Goals as goal

pub returns : goal.returns
returns c = λ clauses h. canonical_again clauses h
