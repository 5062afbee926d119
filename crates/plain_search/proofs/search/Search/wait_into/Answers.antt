use Rattle.std.proofs.Common.{◌≡◌, ◌+◌, ◌-◌, ◌≤◌, ◌<◌, Some, refl, sym, ◌∙◌, rules, arith}
use Rattle.route_base.specs.Net.{setting_of}
use Rattle.route_base.proofs.Arcs.{takes_time}
use Rattle.route_base.proofs.Parks.{weight_small}
use Rattle.plain_search.specs.Inside.Costs.{none, at}
use Rattle.plain_search.specs.Inside.CostTable.{cost_of}
use Rattle.plain_search.proofs.Founding.{cost_fits}
use Rattle.plain_search.proofs.search.Search.wait_into.Goals as goal

pub overflow_add-before : goal.overflow_add-before
overflow_add-before c =
    let known : cost_of c.args.table.now c.args.node.0 (c.args.minute - 1) < none = search rules in
    let small : cost_of c.args.table.now c.args.node.0 (c.args.minute - 1) ≤ 10000000000 =
    cost_fits (setting_of c.args.self.now.net.now) c.args.self.now.request
    (takes_time c.args.self.now.net.now c.args.self.now.good) c.args.self.now.asked.fit (cost_of c.args.table.now)
    (c.args.self.now.request.until + 1) c.requires.sound.founded c.args.node.0 (c.args.minute - 1) known in
    let here : (setting_of c.args.self.now.net.now).weight c.args.node.0 ≡ Some c.in_ok-weight.weight = sym
    c.weight_to_wait.ensures.value ∙ c.in_ok-weight.was in
    omega (arith, c.cost-before.ensures, small, weight_small c.args.self.now.net.now c.args.self.now.good c.args.node.0 c.in_ok-weight.weight here)

pub returns-clause-some : goal.returns-clause-some
returns-clause-some c =
    let known : cost_of c.args.table.now c.args.node.0 (c.args.minute - 1) < none = search rules in
    let later : c.args.self.now.request.depart < c.args.minute = omega (arith, c.requires.minute.from, c.if-minute-self.false) in
    record {
      known = known;
      single = refl;
      earlier = omega (arith, later);
      walk = (
        at (cost_of c.args.table.now) c.args.node.0 c.args.minute,
        record {
          weight = c.in_ok-weight.weight;
          rated = sym c.weight_to_wait.ensures.value ∙ c.in_ok-weight.was;
          is_open = sym c.is_shut.ensures ∙ c.if-is_shut.false;
          in_time = omega (arith, later, c.requires.minute.upto);
          node = refl;
          minute = omega (arith, later);
          cost = omega (arith, c.cost.ensures, c.cost-before.ensures, c.if-before-weight.false);
        },
        refl,
      );
    }
