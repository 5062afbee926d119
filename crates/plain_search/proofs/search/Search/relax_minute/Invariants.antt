use Rattle.std.proofs.Common.{◌+◌, ◌≤◌, ℕ}
use Rattle.route_base.specs.Itinerary.{Step}
use Rattle.route_base.specs.Net.{setting_of}
use Rattle.plain_search.specs.Inside.Costs.{ChangesLater, IsRelaxedFrom}
use Rattle.plain_search.specs.Inside.Soundness.{IsSoundTable}
use Rattle.plain_search.specs.Inside.CostTable.{cost_of}
use Rattle.plain_search.proofs.search.Search.relax_minute.Given as goal

abbrev pub invariant-loop-v : goal.invariant-loop-v
invariant-loop-v l = record {
  sound : IsSoundTable l.self.net.now l.self.request (l.minute + 1) l.table;
  later : ChangesLater (cost_of l.fn.table) (cost_of l.table) l.minute;
  settled : (x : Step) (v : ℕ) → 1 ≤ v → v ≤ l.v → IsRelaxedFrom (setting_of l.self.net.now) l.self.request.until (cost_of l.table) x v l.minute;
}
