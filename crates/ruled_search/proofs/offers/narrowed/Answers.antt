use Rattle.std.proofs.Common.{List, length, ◌∙◌, ap, subst}
use Rattle.cost_functions.specs.Pieces.{value_at}
use Rattle.cost_functions.specs.declared.pieces.Piece.{Piece}
use Rattle.route_base.specs.Net.{setting_of}
use Rattle.ruled_states.specs.Inside.Cuts.{AreCut}
use Rattle.ruled_search.specs.Inside.Tasks.{latest_in, state_bound}
use Rattle.ruled_search.proofs.Placed.{have_functions, small_nodes}
use Rattle.ruled_search.proofs.offers.narrowed.Goals as goal

pub undominated-requires-clause-places : goal.undominated-requires-clause-places
undominated-requires-clause-places g c =
    let shape = c.requires.shape.1 in
    have_functions c.args.progress.now.table.infos c.args.node.0 _ c.places-places.result.now c.places-places.ensures
    (ap (λ w. length w) c.deref.ensures.value ∙ shape.functions)

pub returns-clause-narrowed : goal.returns-clause-narrowed
returns-clause-narrowed g c =
    let task = c.args.task in
    let progress = c.args.progress.now in
    let shape = c.requires.shape.1 in
    c.cuts_are_narrow.ensures (setting_of task.net.now) (g.R.Ruler.ruling task.ruler.now) task.request.origin.0 task.request.goal.0 task.request.depart
    task.request.until (state_bound (g.R.Ruler.ruling task.ruler.now) task.bounds.now) (latest_in _ g.R.Ruler.ruling task) progress.table.infos
    progress.functions.items
    progress.pending.items progress.pairs.items c.args.node.0 c.args.state c.places-places.result.now (value_at c.args.costs)
    (value_at c.in_ok-left.left) c.requires.asked.rules
    (small_nodes task.net.now.nodes (state_bound (g.R.Ruler.ruling task.ruler.now) task.bounds.now) progress.table.infos c.requires.asked.good.nodes
    shape.infos)
    shape.distinct c.requires.node c.places-places.ensures
    (subst (λ (w : List (List Piece)). AreCut (g.R.Ruler.ruling task.ruler.now) w c.args.state c.places-places.result.now (value_at c.args.costs)
    (value_at c.in_ok-left.left)) c.deref.ensures.value c.in_ok-left.ensures.values)
