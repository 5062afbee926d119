use Rattle.std.proofs.Common.{ℕ, None, Some, ap, arith}
use Rattle.std.specs.Prelude.{nat_lt, if◌then◌else◌}
use Rattle.route_base.specs.Matching.{IsInWindow}
use Rattle.route_base.specs.Net.{setting_of}
use Rattle.route_base.specs.declared.faults.RequestFault.TheVariants.{TooManyStates}
use Rattle.front_transport.specs.declared.limits.TheConstants.{MOST_STATES}
use Rattle.front_desk.specs.Inside.Planning.{trip_window}
use Rattle.front_desk.specs.Plan.{trip_setting}
use Rattle.front_desk.specs.Trips.{request_of}
use Rattle.front_desk.proofs.laws.nets.tour_texts_agree.Goals as goal

pub returns-clause-text : goal.returns-clause-text
returns-clause-text c = λ network net trip stops text is right.
    let window = trip_window trip in
    let request = request_of trip in
    let within : IsInWindow request window = (omega arith, omega arith) in
    record {
      routes = right.routes;
      right = (c.tours_agree.ensures.right (setting_of net) (trip_setting network trip) window request stops is.stands within right.routes).0 right.right;
      is_text = right.is_text;
    }

pub returns-clause-size : goal.returns-clause-size
returns-clause-size c = λ network net trip stops is.
    ap (λ (size : ℕ). if nat_lt MOST_STATES size then Some TooManyStates else None)
    (c.tours_agree.ensures.size (setting_of net) (trip_setting network trip) (trip_window trip) stops is.stands)
