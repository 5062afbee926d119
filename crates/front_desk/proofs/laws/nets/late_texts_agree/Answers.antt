use Rattle.std.proofs.Common.{arith}
use Rattle.route_base.specs.Matching.{IsInWindow}
use Rattle.route_base.specs.Net.{setting_of}
use Rattle.front_desk.specs.Inside.Planning.{trip_window}
use Rattle.front_desk.specs.Plan.{trip_setting}
use Rattle.front_desk.specs.Trips.{request_of}
use Rattle.front_desk.proofs.laws.nets.late_texts_agree.Goals as goal

pub returns : goal.returns
returns c = λ network net trip text is late.
    let window = trip_window trip in
    let request = request_of trip in
    let within : IsInWindow request window = (omega arith, omega arith) in
    record {
      routes = late.routes;
      right = (c.late_routes_agree.ensures (setting_of net) (trip_setting network trip) window request is.stands within late.routes).0 late.right;
      is_text = late.is_text;
    }
