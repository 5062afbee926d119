use Rattle.route_base.specs.Legs.{start_of}
use Rattle.route_base.proofs.AgreeingWalks.{flipped, walks_too, front_too, right_too, fit_too}
use Rattle.route_base.proofs.matching.settings_agree.Goals as goal

pub returns-clause-walks : goal.returns-clause-walks
returns-clause-walks c = λ s z w r same within steps p. (
  walks_too s z w same r.until within.1 steps (start_of r) p within.0,
  walks_too z s w (flipped s z w same) r.until within.1 steps (start_of r) p within.0,
)

pub returns-clause-front : goal.returns-clause-front
returns-clause-front c = λ s z w r same within pairs. (front_too s z w r same within pairs, front_too z s w r (flipped s z w same) within pairs)

pub returns-clause-right : goal.returns-clause-right
returns-clause-right c = λ s z w r same within routes. (right_too s z w r same within routes, right_too z s w r (flipped s z w same) within routes)

pub returns-clause-fit : goal.returns-clause-fit
returns-clause-fit c = λ s z w r same within. (fit_too z s w r (flipped s z w same) within, fit_too s z w r same within)
