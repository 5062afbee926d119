use Rattle.std.proofs.Common.{◌≡◌, ◌+◌, ◌≤◌, Some, IsTrue, refl, sym, ◌∙◌, ap, rules, arith}
use Rattle.std.specs.Option.{option_map}
use Rattle.route_base.specs.Itinerary.{drive}
use Rattle.route_base.specs.Net.{road_of, at_number}
use Rattle.node_arcs.specs.Stars.{node_at}
use Rattle.plain_search.specs.Inside.CostTable.{cost_of}
use Rattle.node_arcs.specs.declared.links.End.TheVariants.{Tail}
use Rattle.plain_search.proofs.Founding.{later_of}
use Rattle.plain_search.proofs.Sounding.{label_fits, sound_lower}
use Rattle.plain_search.proofs.search.Search.relax_arc.Goals as goal

pub overflow_add-cost : goal.overflow_add-cost
overflow_add-cost c =
    let small = label_fits c.args.self.now.net.now c.args.self.now.request (c.args.minute + 1) c.args.table.now c.args.node.0 c.args.minute
    c.args.self.now.good c.args.self.now.asked c.requires.label in
    let cheap = c.in-Some.ensures.good.cost in
    omega (arith, c.cost-cost.ensures, small, cheap)

pub returns-clause-later : goal.returns-clause-later
returns-clause-later c =
    let takes : 1 ≤ c.in-Some.arc.minutes = c.in-Some.ensures.good.minutes.0 in
    later_of (cost_of c.args.table.now) (cost_of c.lower.new.self) c.in-Some.arc.head.0 c.args.minute (c.args.minute + c.in-Some.arc.minutes)
    (c.cost-cost.result + c.in-Some.arc.cost) c.lower.ensures.lowers (omega arith)

pub returns-clause-sound : goal.returns-clause-sound
returns-clause-sound c =
    let here : at_number c.args.self.now.net.now.arcs c.args.id.0 ≡ Some c.in-Some.arc = sym c.arc.ensures.value ∙ c.in-Some.is in
    let tail : Some c.in-Some.arc.tail.0 ≡ Some c.args.node.0 = sym (ap (option_map (node_at Tail)) here) ∙ c.requires.tail in
    let takes : 1 ≤ c.in-Some.arc.minutes = c.in-Some.ensures.good.minutes.0 in
    let in_time : c.args.minute + c.in-Some.arc.minutes ≤ c.args.self.now.request.until = omega (arith, c.requires.label.reached.upto) in
    let open_then : IsTrue c.is_open.result = search rules in
    sound_lower c.args.self.now.net.now c.args.self.now.request c.args.table.now c.lower.new.self (c.args.minute + 1) c.in-Some.arc.head.0
    (c.args.minute + c.in-Some.arc.minutes)
    (c.cost-cost.result + c.in-Some.arc.cost) c.requires.label.sound c.lower.ensures.shape c.lower.ensures.lowers (omega arith) (omega arith)
    (drive c.args.id.0) c.args.node.0 c.args.minute (omega arith) c.requires.label.reached.known (record {
      road = road_of c.in-Some.arc;
      is = ap (option_map road_of) here;
      tail = cc;
      is_open = c.is_open.ensures.0 open_then;
      in_time = in_time;
      node = refl;
      minute = refl;
      cost = omega (arith, c.cost-cost.ensures);
    })
