use Rattle.route_base.specs.Net.{setting_of}
use Rattle.plain_search.specs.Inside.CostTable.{cost_of}
use Rattle.plain_search.proofs.Columns.{AreReadTo}
use Rattle.plain_search.proofs.search.Search.read_points.Given as goal

abbrev pub invariant-loop-v : goal.invariant-loop-v
invariant-loop-v l = AreReadTo (setting_of l.self.net.now) l.self.request (cost_of l.table) l.v l.entries.items
