use Rattle.std.proofs.Common.{arith}
use Rattle.route_base.specs.Matching.{IsInWindow}
use Rattle.route_base.specs.Net.{setting_of}
use Rattle.certificate_check.specs.declared.checker.Verdict.TheVariants.{Accepted}
use Rattle.front_desk.specs.Inside.Planning.{trip_window}
use Rattle.front_desk.specs.Plan.{trip_setting}
use Rattle.front_desk.specs.Trips.{request_of}
use Rattle.front_desk.proofs.ReadyPlans.{ready_stands}
use Rattle.front_desk.proofs.laws.nets.plans_agree.Goals as goal

pub returns : goal.returns
returns c = λ network net plan planned is ready.
    let road = trip_setting network plan.trip in
    let window = trip_window plan.trip in
    let request = request_of plan.trip in
    let within : IsInWindow request window = (omega arith, omega arith) in
    ready_stands (setting_of net) road plan
    (λ routes. (c.settings_agree.ensures.right (setting_of net) road window request is.stands within routes).0)
    (λ certificate. (c.verdicts_agree.ensures (setting_of net) road window request is.stands within certificate Accepted).0)
    (λ certificate. (c.certificates_agree.ensures.tight (setting_of net) road window request is.stands within certificate).0)
    (λ routes. c.reports_agree.ensures (setting_of net) road window plan.form request routes is.stands)
    planned ready
