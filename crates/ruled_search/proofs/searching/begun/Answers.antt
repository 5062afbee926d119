use Rattle.std.proofs.Common.{refl, sym, ◌∙◌, ap, arith}
use Rattle.cost_functions.specs.Pieces.{value_at}
use Rattle.state_dominance.specs.Inside.Product.{code}
use Rattle.ruled_states.specs.Inside.Codes.{base}
use Rattle.ruled_search.specs.Inside.Tasks.{task_of, progress_of, state_bound}
use Rattle.ruled_search.proofs.Beginning.{clear_reached, start_rests}
use Rattle.ruled_search.proofs.Planned.{simulates, bounds_along, unbound_rests}
use Rattle.ruled_search.proofs.searching.begun.Goals as goal

pub returns-in_default-clause-facts : goal.returns-in_default-clause-facts
returns-in_default-clause-facts g c =
    let task = c.args.task in
    let now = c.in_ok-progress.progress in
    unbound_rests g.R.Ruler.ruling task c.requires.asked (progress_of now) c.in_ok-progress.ensures.blank
    (ap (state_bound (g.R.Ruler.ruling task.ruler.now) task.bounds.now task.request.origin.0) (sym c.first-state.ensures)
    ∙ (sym c.bound_at.ensures ∙ c.in_default.is))

pub cleared-clear-requires-clause-node : goal.cleared-clear-requires-clause-node
cleared-clear-requires-clause-node g c = omega (arith, c.requires.asked.ends.origin.1, c.requires.asked.good.nodes)

pub with_waits-requires-clause-reached : goal.with_waits-requires-clause-reached
with_waits-requires-clause-reached g c t x is =
    let k = task_of _ g.R.Ruler.ruling c.args.task in
    clear_reached k (code base c.args.task.request.origin.0 c.first-state.result) (ap (code base c.args.task.request.origin.0) c.first-state.ensures)
    (value_at c.in_ok-first.first) (value_at c.cleared-clear.result)
    (record { here = c.in_ok-first.ensures.here; elsewhere = λ t ne. c.in_ok-first.ensures.elsewhere t ne })
    c.in_ok-progress.progress.pairs.items c.cleared-clear.ensures.cleared (progress_of c.in_ok-progress.progress) t x is

pub returns-clause-facts : goal.returns-clause-facts
returns-clause-facts g c =
    let k = task_of _ g.R.Ruler.ruling c.args.task in
    start_rests k (code base c.args.task.request.origin.0 c.first-state.result) (ap (code base c.args.task.request.origin.0) c.first-state.ensures)
    (value_at c.in_ok-first.first) (value_at c.cleared-clear.result)
    (record { here = c.in_ok-first.ensures.here; elsewhere = λ t ne. c.in_ok-first.ensures.elsewhere t ne })
    c.in_ok-progress.progress.pairs.items c.cleared-clear.ensures.cleared
    (simulates g.R.Ruler.ruling c.args.task c.requires.asked) (bounds_along g.R.Ruler.ruling c.args.task c.requires.asked) (value_at c.in_ok-offer.offer)
    c.in_ok-offer.ensures.closed (progress_of c.in_ok-progress.progress) (progress_of c.take.new.progress) refl c.in_ok-progress.ensures.blank
    c.in_ok-take.ensures.takes
