use Rattle.stop_tour.proofs.OneTour.{one_tour_answer as only}
use Rattle.stop_tour.proofs.laws.one_tour_answer.Goals as goal

pub returns : goal.returns
returns c = λ s r stops xs ys right_x right_y. only s r stops xs ys right_x right_y
