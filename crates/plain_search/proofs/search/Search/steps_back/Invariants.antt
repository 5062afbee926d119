use Rattle.std.proofs.Common.{◌+◌, ◌≤◌, ◌<◌, length, reverse}
use Rattle.std.specs.Prelude.{All}
use Rattle.route_base.specs.Legs.{steps_of}
use Rattle.route_base.specs.Net.{setting_of}
use Rattle.route_base.specs.StepsBack.{LeadsFirst}
use Rattle.plain_search.specs.Inside.Predecessors.{IsSingle}
use Rattle.plain_search.specs.Inside.Costs.{none, at}
use Rattle.plain_search.specs.Inside.CostTable.{cost_of}
use Rattle.plain_search.proofs.search.Search.steps_back.Given as goal

abbrev pub invariant-back : goal.invariant-back
invariant-back l = record {
  known : cost_of l.table l.node.0 l.minute < none;
  upto : l.minute ≤ l.self.request.until;
  short : length l.legs.items + l.minute ≤ l.arrival;
  single : All IsSingle l.legs.items;
  leads : LeadsFirst (setting_of l.self.net.now) l.self.request (record { arrival = l.arrival; cost = cost_of l.table l.self.request.goal.0 l.arrival })
      (at (cost_of l.table) l.node.0 l.minute) (steps_of (reverse l.legs.items));
}

abbrev pub decreases-back : goal.decreases-back
decreases-back l = l.minute
