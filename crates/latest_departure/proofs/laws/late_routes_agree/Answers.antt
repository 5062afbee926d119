use Rattle.route_base.proofs.AgreeingWalks.{flipped}
use Rattle.latest_departure.proofs.AgreeingLate.{right_late_too}
use Rattle.latest_departure.proofs.laws.late_routes_agree.Goals as goal

pub returns : goal.returns
returns c = λ s z window r same within routes. (
  right_late_too s z window r same within routes,
  right_late_too z s window r (flipped s z window same) within routes,
)
