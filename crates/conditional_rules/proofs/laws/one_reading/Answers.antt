use Rattle.conditional_rules.proofs.OneReading.{one_reading}
use Rattle.conditional_rules.proofs.laws.one_reading.Goals as goal

pub returns : goal.returns
returns c = λ text a b h k. one_reading text a b h k
