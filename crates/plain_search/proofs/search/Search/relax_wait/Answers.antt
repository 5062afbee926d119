use Rattle.std.proofs.Common.{◌≡◌, ◌+◌, ◌≤◌, Some, refl, sym, ◌∙◌, arith}
use Rattle.route_base.specs.Itinerary.{wait}
use Rattle.route_base.specs.Net.{setting_of}
use Rattle.route_base.proofs.Parks.{weight_small}
use Rattle.plain_search.specs.Inside.CostTable.{cost_of}
use Rattle.plain_search.proofs.Founding.{later_of}
use Rattle.plain_search.proofs.Sounding.{label_fits, sound_lower}
use Rattle.plain_search.proofs.search.Search.relax_wait.Goals as goal

pub overflow_add-cost : goal.overflow_add-cost
overflow_add-cost c =
    let small = label_fits c.args.self.now.net.now c.args.self.now.request (c.args.minute + 1) c.args.table.now c.args.node.0 c.args.minute
    c.args.self.now.good c.args.self.now.asked c.requires.label in
    let here : (setting_of c.args.self.now.net.now).weight c.args.node.0 ≡ Some c.in-Some.weight = sym
    c.weight_to_wait.ensures.value ∙ c.in-Some.is in
    let cheap = weight_small c.args.self.now.net.now c.args.self.now.good c.args.node.0 c.in-Some.weight here in
    omega (arith, c.cost-cost.ensures, small, cheap)

pub returns-clause-later : goal.returns-clause-later
returns-clause-later c = later_of (cost_of c.args.table.now) (cost_of c.lower.new.self) c.args.node.0 c.args.minute (c.args.minute + 1)
    (c.cost-cost.result + c.in-Some.weight) c.lower.ensures.lowers (omega arith)

pub returns-clause-sound : goal.returns-clause-sound
returns-clause-sound c =
    let here : (setting_of c.args.self.now.net.now).weight c.args.node.0 ≡ Some c.in-Some.weight = sym
    c.weight_to_wait.ensures.value ∙ c.in-Some.is in
    let in_time : c.args.minute + 1 ≤ c.args.self.now.request.until = omega arith in
    sound_lower c.args.self.now.net.now c.args.self.now.request c.args.table.now c.lower.new.self (c.args.minute + 1) c.args.node.0 (c.args.minute + 1)
    (c.cost-cost.result + c.in-Some.weight) c.requires.label.sound c.lower.ensures.shape c.lower.ensures.lowers (omega arith) (omega arith)
    wait c.args.node.0 c.args.minute (omega arith) c.requires.label.reached.known (record {
      weight = c.in-Some.weight;
      rated = here;
      is_open = sym c.is_shut.ensures ∙ c.if-is_shut.false;
      in_time = in_time;
      node = refl;
      minute = refl;
      cost = omega (arith, c.cost-cost.ensures);
    })
