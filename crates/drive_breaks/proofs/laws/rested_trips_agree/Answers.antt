use Rattle.std.proofs.Common.{List, sym}
use Rattle.route_base.specs.Itinerary.{Position, Step}
use Rattle.drive_breaks.proofs.AgreeingTrips.{first_too, right_too}
use Rattle.drive_breaks.proofs.laws.rested_trips_agree.Goals as goal

pub returns-clause-right : goal.returns-clause-right
returns-clause-right c = λ s z w r rule same within routes.
    let there = λ (steps : List Step) (p : Position). (c.settings_agree.ensures.walks s z w r same within steps p).0 in
    let back = λ (steps : List Step) (p : Position). (c.settings_agree.ensures.walks s z w r same within steps p).1 in
    (right_too s z r rule same.road there back routes, right_too z s r rule (λ a. sym (same.road a)) back there routes)

pub returns-clause-first : goal.returns-clause-first
returns-clause-first c = λ s z w r rule same within routes.
    let there = λ (steps : List Step) (p : Position). (c.settings_agree.ensures.walks s z w r same within steps p).0 in
    let back = λ (steps : List Step) (p : Position). (c.settings_agree.ensures.walks s z w r same within steps p).1 in
    (first_too z s r rule (λ a. sym (same.road a)) back routes, first_too s z r rule same.road there routes)
