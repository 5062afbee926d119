use Rattle.latest_departure.proofs.LateFronts.{some_late}
use Rattle.latest_departure.proofs.laws.some_late_answer.Goals as goal

pub returns : goal.returns
returns c = λ net r good asked in_order short cheap. some_late net good r asked in_order cheap short
