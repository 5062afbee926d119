use Rattle.std.proofs.Common.{arith}
use Rattle.route_base.specs.Matching.{IsInWindow}
use Rattle.route_base.specs.Net.{setting_of}
use Rattle.front_desk.specs.Breaks.{break_rule_of}
use Rattle.front_desk.specs.Inside.Planning.{trip_window}
use Rattle.front_desk.specs.Plan.{trip_setting}
use Rattle.front_desk.specs.Trips.{request_of}
use Rattle.front_desk.proofs.laws.nets.breaks_agree.Goals as goal

pub returns-clause-text : goal.returns-clause-text
returns-clause-text c = λ network net breaks text is right.
    let window = trip_window breaks.trip in
    let request = request_of breaks.trip in
    let within : IsInWindow request window = (omega arith, omega arith) in
    record {
      routes = right.routes;
      right = (c.rested_trips_agree.ensures.right (setting_of net) (trip_setting network breaks.trip) window request (break_rule_of breaks)
          is.stands within right.routes).0 right.right;
      first = (c.rested_trips_agree.ensures.first (setting_of net) (trip_setting network breaks.trip) window request (break_rule_of breaks)
          is.stands within right.routes).0 right.first;
      is_text = right.is_text;
    }

pub returns-clause-states : goal.returns-clause-states
returns-clause-states c = λ network net breaks is.
    c.rested_trips_agree.ensures.states (setting_of net) (trip_setting network breaks.trip) (trip_window breaks.trip) breaks.trip.origin
    (break_rule_of breaks) is.stands
