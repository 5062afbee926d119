use Rattle.std.proofs.Common.{arith}
use Rattle.route_base.specs.Itinerary.{drive, wait}
use Rattle.route_base.specs.Net.{setting_of}
use Rattle.plain_search.specs.Inside.CostTable.{cost_of}
use Rattle.plain_search.proofs.Staying.{lands_kept}
use Rattle.plain_search.proofs.search.Search.relax_node.Goals as goal

pub returns-clause-lands : goal.returns-clause-lands
returns-clause-lands c (drive a) =
    lands_kept (setting_of c.args.self.now.net.now) c.args.self.now.request.until (cost_of c.relax_arcs.new.table)
    (cost_of c.relax_wait.new.table) c.args.minute (drive a) c.args.node.0 c.args.minute c.relax_wait.ensures.later (omega arith)
    (c.relax_arcs.ensures.lands a)
returns-clause-lands c wait = c.relax_wait.ensures.lands
