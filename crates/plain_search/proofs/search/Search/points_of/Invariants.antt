use Rattle.plain_search.specs.Inside.CostTable.{cost_of}
use Rattle.plain_search.proofs.Columns.{IsReadBefore}
use Rattle.plain_search.proofs.search.Search.points_of.Given as goal

abbrev pub invariant-loop-t : goal.invariant-loop-t
invariant-loop-t l = IsReadBefore (cost_of l.table) l.node.0 l.self.request.depart l.t l.points.items
