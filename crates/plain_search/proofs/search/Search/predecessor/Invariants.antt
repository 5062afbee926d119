use Rattle.std.proofs.Common.{◌<◌, ℕ}
use Rattle.route_base.specs.Itinerary.{Drives}
use Rattle.route_base.specs.Net.{setting_of}
use Rattle.plain_search.specs.Inside.Costs.{none, at}
use Rattle.plain_search.specs.Inside.CostTable.{cost_of}
use Rattle.plain_search.proofs.ArcPlaces.{arc_at}
use Rattle.plain_search.proofs.search.Search.predecessor.Given as goal

abbrev pub invariant-loop-a : goal.invariant-loop-a
invariant-loop-a l = record {
  missed : (i u k : ℕ) → i < l.a-index → cost_of l.table u k < none
      → Drives (setting_of l.self.net.now) l.self.request.until (arc_at l.a-items i)
      (at (cost_of l.table) u k) (at (cost_of l.table) l.fn.node.0 l.minute) → ⊥;
}
