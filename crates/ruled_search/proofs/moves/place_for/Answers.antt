use Rattle.std.proofs.Common.{List, subst}
use Rattle.route_base.specs.declared.types.Run.{Run}
use Rattle.propagation.specs.Inside.EntrySets.{HasEntriesAt}
use Rattle.ruled_search.proofs.Starting.{own_runs, not_empty}
use Rattle.ruled_search.proofs.moves.place_for.Goals as goal

pub ready_set-requires-clause-own : goal.ready_set-requires-clause-own
ready_set-requires-clause-own g c =
    let own = own_runs c.args.task.net.now c.args.way.kind c.args.way.list c.shut_runs-closed.result.now c.shut_runs-closed.ensures
    (not_empty c.shut_runs-closed.result.now c.is_empty.result c.is_empty.ensures c.if-is_empty.false) in
    own.0

pub returns-clause-ready : goal.returns-clause-ready
returns-clause-ready g c =
    let own = own_runs c.args.task.net.now c.args.way.kind c.args.way.list c.shut_runs-closed.result.now c.shut_runs-closed.ensures
    (not_empty c.shut_runs-closed.result.now c.is_empty.result c.is_empty.ensures c.if-is_empty.false) in (
      c.in_ok-place.ensures.list,
      subst (λ (w : List Run). HasEntriesAt w c.args.task.request.until c.args.way.minutes c.ready_set.new.sets c.args.way.list c.in_ok-place.place)
          c.shut_runs-closed.ensures c.in_ok-place.ensures.set,
      own.1,
    )
