use Rattle.rested_tours.proofs.Fronts.{rested_front}
use Rattle.rested_tours.proofs.laws.rested_tours_are_found.Goals as goal

pub returns : goal.returns
returns c = λ s r stops rule base bound pairs no_road long few some is_base origin in_time front.
    rested_front s r stops rule base bound no_road long some few is_base origin in_time pairs front
