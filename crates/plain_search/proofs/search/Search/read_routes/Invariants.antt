use Rattle.route_base.specs.Net.{setting_of}
use Rattle.plain_search.specs.Inside.CostTable.{cost_of}
use Rattle.plain_search.proofs.Reading.{IsReadTo}
use Rattle.plain_search.proofs.search.Search.read_routes.Given as goal

abbrev pub invariant-loop-t : goal.invariant-loop-t
invariant-loop-t l = IsReadTo (setting_of l.self.net.now) l.self.request (cost_of l.table) l.t l.best l.routes.items
