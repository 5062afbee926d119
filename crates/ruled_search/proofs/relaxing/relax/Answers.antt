use Rattle.cost_functions.specs.Pieces.{value_at}
use Rattle.route_base.specs.Net.{setting_of}
use Rattle.ruled_states.specs.Inside.Codes.{base}
use Rattle.ruled_search.specs.Inside.Tasks.{latest_in, progress_of, state_bound, task_of}
use Rattle.ruled_search.specs.Inside.Ways.{head_of, road_in, tail_of}
use Rattle.ruled_search.proofs.Improving.{improves_by, improves_same}
use Rattle.ruled_search.proofs.relaxing.relax.Goals as goal

pub returns-then-is_shown_covered-clause-better : goal.returns-then-is_shown_covered-clause-better
returns-then-is_shown_covered-clause-better g c = improves_same (progress_of c.args.progress.now)

pub take-requires-clause-trade : goal.take-requires-clause-trade
take-requires-clause-trade g c = c.requires.facts.trade

pub returns-clause-facts : goal.returns-clause-facts
returns-clause-facts g c =
    let task = c.args.task in
    let ruler = g.R.Ruler.ruling task.ruler.now in
    let bound = state_bound ruler task.bounds.now in
    let asked = c.requires.asked in
    let simulate = c.rulers_simulate.ensures.simulate (setting_of task.net.now) ruler base task.request.origin.0 task.request.goal.0 task.request.depart
    task.request.until bound (latest_in _ g.R.Ruler.ruling task) asked.rules asked.numbers asked.bound asked.latest in
    let along = c.rulers_simulate.ensures.bounds (setting_of task.net.now) ruler base task.request.origin.0 task.request.goal.0 task.request.depart
    task.request.until bound (latest_in _ g.R.Ruler.ruling task) asked.rules asked.numbers asked.bound asked.latest in
    c.offers_are_kept.ensures.takes (task_of _ g.R.Ruler.ruling task) (progress_of c.args.progress.now) _ (tail_of c.args.way) (head_of c.args.way)
    (value_at c.args.part.now) (value_at c.in_ok-offer.offer) simulate along c.requires.facts c.in_ok-offer.ensures.offer.offers c.in_ok-take.ensures.takes

pub returns-clause-better : goal.returns-clause-better
returns-clause-better g c = improves_by (task_of _ g.R.Ruler.ruling c.args.task) (head_of c.args.way) (value_at c.in_ok-offer.offer)
    (progress_of c.args.progress.now) _ c.in_ok-take.ensures.takes

pub returns-clause-relaxed : goal.returns-clause-relaxed
returns-clause-relaxed g c =
    let task = c.args.task in
    let ruler = g.R.Ruler.ruling task.ruler.now in
    let bound = state_bound ruler task.bounds.now in
    let asked = c.requires.asked in
    let simulate = c.rulers_simulate.ensures.simulate (setting_of task.net.now) ruler base task.request.origin.0 task.request.goal.0 task.request.depart
    task.request.until bound (latest_in _ g.R.Ruler.ruling task) asked.rules asked.numbers asked.bound asked.latest in
    let along = c.rulers_simulate.ensures.bounds (setting_of task.net.now) ruler base task.request.origin.0 task.request.goal.0 task.request.depart
    task.request.until bound (latest_in _ g.R.Ruler.ruling task) asked.rules asked.numbers asked.bound asked.latest in
    let offer = c.in_ok-offer.ensures.offer in
    c.drives_are_relaxed.ensures (task_of _ g.R.Ruler.ruling task) (progress_of c.args.progress.now) _ (road_in c.args.way) (tail_of c.args.way)
    (head_of c.args.way) (value_at c.args.part.now) offer.ends offer.clear offer.wide (value_at c.in_ok-offer.offer) simulate along offer.driven
    offer.cleared offer.closed offer.narrowed offer.offers c.in_ok-take.ensures.takes
