use Rattle.route_base.specs.Net.{setting_of}
use Rattle.route_base.proofs.Arcs.{takes_time}
use Rattle.drive_breaks.proofs.RestedOrders.{never_both, total}
use Rattle.drive_breaks.proofs.laws.itineraries_are_ordered.Goals as goal

pub returns-clause-total : goal.returns-clause-total
returns-clause-total c = λ net until rest xs ys p q good some one two. total (setting_of net) until (takes_time net good) rest some xs ys p q one two

pub returns-clause-one : goal.returns-clause-one
returns-clause-one c = λ roads rest xs ys before after. never_both roads rest xs ys before after
