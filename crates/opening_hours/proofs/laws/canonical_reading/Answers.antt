use Rattle.opening_hours.proofs.Whole.{print_read}
use Rattle.opening_hours.proofs.laws.canonical_reading.Goals as goal

pub returns : goal.returns
returns c = λ rules h. print_read rules h
