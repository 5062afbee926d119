use Rattle.route_base.proofs.AgreeingWalks.{flipped}
use Rattle.rested_tours.proofs.AgreeingRestedTours.{right_too}
use Rattle.rested_tours.proofs.laws.rested_tours_agree.Goals as goal

pub returns : goal.returns
returns c = λ s z w r stops rule same within routes. (
  right_too s z w r stops rule same within routes,
  right_too z s w r stops rule (flipped s z w same) within routes,
)
