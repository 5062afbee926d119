use Rattle.latest_departure.proofs.OneLate.{one_late_answer as only}
use Rattle.latest_departure.proofs.laws.one_late_answer.Goals as goal

pub returns : goal.returns
returns c = λ s r xs ys right_x right_y. only s r xs ys right_x right_y
