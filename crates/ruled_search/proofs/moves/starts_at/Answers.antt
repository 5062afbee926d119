use Rattle.std.proofs.Common.{List, sym, subst}
use Rattle.route_base.specs.declared.types.Run.{Run}
use Rattle.propagation.proofs.EntryLists.{set_read}
use Rattle.ruled_search.specs.Inside.Tasks.{task_of}
use Rattle.ruled_search.specs.Inside.Ways.{AreStarts, IsPlaceReady, road_in, shut_in}
use Rattle.ruled_search.proofs.Starting.{starts_of, way_shut, lone_starts, slice_is}
use Rattle.ruled_search.proofs.moves.starts_at.Goals as goal

pub returns-in-Some-clause-starts : goal.returns-in-Some-clause-starts
returns-in-Some-clause-starts g c =
    let way = c.args.way in
    let net = c.args.task.net.now in
    let until = c.args.task.request.until in
    let task = task_of _ g.R.Ruler.ruling c.args.task in
    let ready = subst (λ o. IsPlaceReady net until way c.args.sets.now o) c.in-Some.is c.requires.ready in
    let closed = shut_in net way.kind way.list in
    subst (λ (w : List Run). AreStarts task (road_in way) way.minutes w) (sym c.runs.ensures.items)
    (starts_of task (road_in way) way.minutes closed c.index-in-Some.result.now.set
    (way_shut g.R.Ruler.ruling c.args.task way c.requires.way ready.2)
    (set_read closed until way.minutes c.args.sets.now way.list c.in-Some.place c.index.result.now c.index-in-Some.result.now ready.1 c.index.ensures
    c.index-in-Some.ensures))

pub returns-in-None-clause-starts : goal.returns-in-None-clause-starts
returns-in-None-clause-starts g c =
    let way = c.args.way in
    let task = task_of _ g.R.Ruler.ruling c.args.task in
    let ready = subst (λ o. IsPlaceReady c.args.task.net.now c.args.task.request.until way c.args.sets.now o) c.in-None.is c.requires.ready in
    subst (λ (w : List Run). AreStarts task (road_in way) way.minutes w) (sym (slice_is c.args.lone.now c.as_slice.result.now c.as_slice.ensures))
    (lone_starts g.R.Ruler.ruling c.args.task way c.requires.way _ ready c.requires.lone)
