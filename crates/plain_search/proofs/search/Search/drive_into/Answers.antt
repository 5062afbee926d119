use Rattle.std.proofs.Common.{◌≡◌, ◌+◌, ◌-◌, ◌≤◌, ◌<◌, Some, IsTrue, refl, sym, ◌∙◌, ap, rules, arith}
use Rattle.std.specs.Option.{option_map}
use Rattle.route_base.specs.Net.{setting_of, road_of, at_number}
use Rattle.route_base.proofs.Arcs.{takes_time}
use Rattle.node_arcs.specs.Stars.{node_at}
use Rattle.node_arcs.specs.declared.links.End.TheVariants.{Head}
use Rattle.plain_search.specs.Inside.Costs.{none, at}
use Rattle.plain_search.specs.Inside.CostTable.{cost_of}
use Rattle.plain_search.proofs.Founding.{cost_fits}
use Rattle.plain_search.proofs.search.Search.drive_into.Goals as goal

pub overflow_add-before : goal.overflow_add-before
overflow_add-before c =
    let known : cost_of c.args.table.now c.in_ok-arc.arc.tail.0 (c.args.minute - c.in_ok-arc.arc.minutes) < none = search rules in
    let small : cost_of c.args.table.now c.in_ok-arc.arc.tail.0 (c.args.minute - c.in_ok-arc.arc.minutes) ≤ 10000000000 =
    cost_fits (setting_of c.args.self.now.net.now) c.args.self.now.request
    (takes_time c.args.self.now.net.now c.args.self.now.good) c.args.self.now.asked.fit (cost_of c.args.table.now)
    (c.args.self.now.request.until + 1) c.requires.sound.founded c.in_ok-arc.arc.tail.0 (c.args.minute - c.in_ok-arc.arc.minutes) known in
    let cheap = c.in_ok-arc.ensures.good.cost in
    omega (arith, c.cost-before.ensures, small, cheap)

pub returns-clause-some : goal.returns-clause-some
returns-clause-some c =
    let known : cost_of c.args.table.now c.in_ok-arc.arc.tail.0 (c.args.minute - c.in_ok-arc.arc.minutes) < none = search rules in
    let here : at_number c.args.self.now.net.now.arcs c.args.id.0 ≡ Some c.in_ok-arc.arc = sym c.arc.ensures.value ∙ c.in_ok-arc.was in
    let head : Some c.in_ok-arc.arc.head.0 ≡ Some c.args.node.0 = sym (ap (option_map (node_at Head)) here) ∙ c.requires.head in
    let takes : 1 ≤ c.in_ok-arc.arc.minutes = c.in_ok-arc.ensures.good.minutes.0 in
    let open_then : IsTrue c.is_open.result = search rules in
    record {
      known = known;
      single = tt;
      earlier = omega arith;
      walk = (
        at (cost_of c.args.table.now) c.args.node.0 c.args.minute,
        record {
          road = road_of c.in_ok-arc.arc;
          is = ap (option_map road_of) here;
          tail = refl;
          is_open = c.is_open.ensures.0 open_then;
          in_time = omega arith;
          node = cc;
          minute = omega arith;
          cost = omega (arith, c.cost.ensures, c.cost-before.ensures);
        },
        refl,
      );
    }
