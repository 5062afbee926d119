use Rattle.route_base.specs.Net.{setting_of}
use Rattle.plain_search.specs.Inside.Costs.{IsRelaxedBefore}
use Rattle.plain_search.specs.Inside.Soundness.{IsSoundTable}
use Rattle.plain_search.specs.Inside.CostTable.{cost_of}
use Rattle.plain_search.proofs.search.Search.least_costs.Given as goal

abbrev pub invariant-loop-t : goal.invariant-loop-t
invariant-loop-t l = record {
  sound : IsSoundTable l.self.net.now l.self.request l.t l.table;
  done : IsRelaxedBefore (setting_of l.self.net.now) l.self.request.until (cost_of l.table) l.t;
}
