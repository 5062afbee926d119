use Rattle.route_base.proofs.SomeAnswer.{some_answer as has_answer}
use Rattle.route_base.proofs.answers.some_answer.Goals as goal

pub returns : goal.returns
returns c = λ net r good in_order fit. has_answer net r good in_order fit
