use Rattle.route_base.proofs.OneAnswer.{one_answer as only}
use Rattle.route_base.proofs.answers.one_answer.Goals as goal

pub returns : goal.returns
returns c = λ s r xs ys right_x right_y. only s r xs ys right_x right_y
