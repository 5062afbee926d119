use Rattle.cost_functions.specs.Pieces.{value_at}
use Rattle.route_base.specs.Net.{setting_of}
use Rattle.ruled_states.specs.Inside.Codes.{base}
use Rattle.ruled_search.specs.Inside.Tasks.{latest_in, progress_of, state_bound, task_of}
use Rattle.ruled_search.specs.Inside.Ways.{head_of, road_in, tail_of}
use Rattle.ruled_search.proofs.Offering.{reached_clear}
use Rattle.ruled_search.proofs.offers.offered.Goals as goal

pub with_waits-requires-clause-reached : goal.with_waits-requires-clause-reached
with_waits-requires-clause-reached g c =
    let moved = c.in_ok-clear.ensures.moved in
    reached_clear (task_of _ g.R.Ruler.ruling c.args.task) c.args.progress.now.pairs.items (road_in c.args.way) (tail_of c.args.way) (head_of c.args.way)
    (value_at c.args.part.now) moved.ends (value_at c.in_ok-clear.clear) c.requires.part.reached moved.driven moved.cleared

pub returns-clause-offer : goal.returns-clause-offer
returns-clause-offer g c =
    let task = c.args.task in
    let ruler = g.R.Ruler.ruling task.ruler.now in
    let bound = state_bound ruler task.bounds.now in
    let asked = c.requires.asked in
    let k = task_of _ g.R.Ruler.ruling task in
    let now = progress_of c.args.progress.now in
    let way = c.args.way in
    let part = value_at c.args.part.now in
    let moved = c.in_ok-clear.ensures.moved in
    let clear = value_at c.in_ok-clear.clear in
    let wide = value_at c.in_ok-wide.wide in
    let closed = c.in_ok-wide.ensures.closed in
    let narrow = c.in_ok-offer.ensures.narrowed in
    let simulate = c.rulers_simulate.ensures.simulate (setting_of task.net.now) ruler base task.request.origin.0 task.request.goal.0 task.request.depart
    task.request.until bound (latest_in _ g.R.Ruler.ruling task) asked.rules asked.numbers asked.bound asked.latest in
    let along = c.rulers_simulate.ensures.bounds (setting_of task.net.now) ruler base task.request.origin.0 task.request.goal.0 task.request.depart
    task.request.until bound (latest_in _ g.R.Ruler.ruling task) asked.rules asked.numbers asked.bound asked.latest in
    let is_wide = c.drives_are_wide.ensures k now (road_in way) (tail_of way) (head_of way) part moved.ends clear wide simulate along c.requires.part
    moved.driven moved.cleared closed in
    record {
      ends = moved.ends;
      clear = clear;
      wide = wide;
      driven = moved.driven;
      cleared = moved.cleared;
      closed = closed;
      narrowed = narrow;
      offers = c.wide_offers_narrow.ensures k now (tail_of way) (head_of way) part wide (value_at c.in_ok-offer.offer) simulate c.requires.facts is_wide narrow;
    }

pub narrowed-requires-clause-shape : goal.narrowed-requires-clause-shape
narrowed-requires-clause-shape g c = (0, c.requires.shape)
