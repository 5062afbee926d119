use Rattle.std.proofs.Common.{◌≡◌, ◌+◌, Some, IsTrue, refl, sym, ◌∙◌, ap, rules, arith}
use Rattle.std.specs.Option.{option_map}
use Rattle.route_base.specs.Net.{road_of, at_number}
use Rattle.route_base.specs.Replay.{position_of}
use Rattle.route_base.proofs.itinerary.after_drive.Goals as goal

pub returns-clause-some : goal.returns-clause-some
returns-clause-some c =
    let here : at_number c.args.net.now.arcs c.args.a.0 ≡ Some c.in_ok-arc.arc = sym c.arc.ensures.value ∙ c.in_ok-arc.was in
    let open_then : IsTrue c.is_open.result = search rules in (
      position_of (record {
        node = c.in_ok-arc.arc.head;
        minute = c.args.at.minute + c.in_ok-arc.arc.minutes;
        cost = c.args.at.cost +
            c.in_ok-arc.arc.cost;
      }),
      record {
        road = road_of c.in_ok-arc.arc;
        is = ap (option_map road_of) here;
        tail = omega arith;
        is_open = c.is_open.ensures.0 open_then;
        in_time = omega arith;
        node = refl;
        minute = refl;
        cost = refl;
      },
      refl,
    )
