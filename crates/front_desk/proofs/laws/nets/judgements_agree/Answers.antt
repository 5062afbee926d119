use Rattle.std.proofs.Common.{arith}
use Rattle.route_base.specs.Matching.{IsInWindow}
use Rattle.route_base.specs.Net.{setting_of}
use Rattle.front_desk.specs.Inside.Planning.{trip_window}
use Rattle.front_desk.specs.Plan.{trip_setting}
use Rattle.front_desk.specs.Trips.{request_of}
use Rattle.front_desk.proofs.Judgements.{judged_there}
use Rattle.front_desk.proofs.laws.nets.judgements_agree.Goals as goal

pub returns : goal.returns
returns c = λ network net trip bytes report is judged.
    let road = trip_setting network trip in
    let window = trip_window trip in
    let request = request_of trip in
    let within : IsInWindow request window = (omega arith, omega arith) in
    judged_there (setting_of net) road request
    (λ certificate verdict. (c.verdicts_agree.ensures (setting_of net) road window request is.stands within certificate verdict).0)
    (λ pairs. (c.settings_agree.ensures.front (setting_of net) road window request is.stands within pairs).0)
    bytes report judged
