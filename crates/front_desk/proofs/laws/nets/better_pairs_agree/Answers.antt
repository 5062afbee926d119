use Rattle.std.proofs.Common.{arith}
use Rattle.route_base.specs.Matching.{IsInWindow}
use Rattle.route_base.specs.Net.{setting_of}
use Rattle.front_desk.specs.Inside.Planning.{trip_window}
use Rattle.front_desk.specs.Plan.{trip_setting}
use Rattle.front_desk.specs.Trips.{request_of}
use Rattle.front_desk.proofs.laws.nets.better_pairs_agree.Goals as goal

pub returns : goal.returns
returns c = λ network net trip pair better is first.
    let window = trip_window trip in
    let request = request_of trip in
    let within : IsInWindow request window = (omega arith, omega arith) in
    record {
      front = first.front;
      is_front = (c.settings_agree.ensures.front (setting_of net) (trip_setting network trip) window request is.stands within first.front).0 first.is_front;
      is_first = first.is_first;
    }
