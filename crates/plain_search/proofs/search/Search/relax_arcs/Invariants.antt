use Rattle.std.proofs.Common.{◌+◌, ◌<◌, ℕ}
use Rattle.route_base.specs.Itinerary.{drive}
use Rattle.route_base.specs.Net.{setting_of}
use Rattle.plain_search.specs.Inside.Costs.{ChangesLater, IsRelaxedFrom}
use Rattle.plain_search.specs.Inside.Soundness.{IsSoundTable}
use Rattle.plain_search.specs.Inside.CostTable.{cost_of}
use Rattle.plain_search.proofs.ArcPlaces.{arc_at}
use Rattle.plain_search.proofs.search.Search.relax_arcs.Given as goal

abbrev pub invariant-loop-a : goal.invariant-loop-a
invariant-loop-a l = record {
  sound : IsSoundTable l.self.net.now l.self.request (l.minute + 1) l.table;
  later : ChangesLater (cost_of l.fn.table) (cost_of l.table) l.minute;
  driven : (i : ℕ) → i < l.a-index
      → IsRelaxedFrom (setting_of l.self.net.now) l.self.request.until (cost_of l.table) (drive (arc_at l.a-items i)) l.fn.node.0 l.minute;
}
