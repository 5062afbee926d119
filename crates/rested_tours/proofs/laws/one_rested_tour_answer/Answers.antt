use Rattle.rested_tours.proofs.OneRestedTour.{one_rested_tour_answer as only}
use Rattle.rested_tours.proofs.laws.one_rested_tour_answer.Goals as goal

pub returns : goal.returns
returns c = only
