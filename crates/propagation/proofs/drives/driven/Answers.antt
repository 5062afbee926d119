use Rattle.std.proofs.Common.{refl, sym, subst, List}
use Rattle.cost_functions.specs.Pieces.{value_at}
use Rattle.cost_functions.specs.declared.pieces.Piece.{Piece}
use Rattle.potentials.specs.Sums.{bound_at}
use Rattle.function_merge.specs.Moves.{kept_at, moved_at, CanMove}
use Rattle.function_merge.specs.Pruning.{IsPruned}
use Rattle.route_base.specs.Front.{RiseAndFall}
use Rattle.route_base.specs.declared.types.Pair.{Pair}
use Rattle.propagation.specs.Inside.States.{task_of}
use Rattle.propagation.proofs.Offering.{cleared_of}
use Rattle.propagation.proofs.Shifting.{entries_drive, entries_fit}
use Rattle.propagation.proofs.drives.driven.Goals as goal

pub place_for-requires-clause-is : goal.place_for-requires-clause-is
place_for-requires-clause-is c = c.requires.way.is

pub place_for-requires-clause-good : goal.place_for-requires-clause-good
place_for-requires-clause-good c = c.requires.way.good

pub starts_at-starts-requires-clause-ready : goal.starts_at-starts-requires-clause-ready
starts_at-starts-requires-clause-ready c = c.in_ok-place.ensures.ready

pub shift_over_runs-requires-clause-trade : goal.shift_over_runs-requires-clause-trade
shift_over_runs-requires-clause-trade c = subst RiseAndFall (sym c.deref.ensures.value) c.requires.borders.trade

pub shift_over_runs-requires-clause-fit : goal.shift_over_runs-requires-clause-fit
shift_over_runs-requires-clause-fit c =
    let way = c.args.way in
    let leaves = c.requires.way in
    let starts = c.starts_at-starts.result.now in
    subst (λ (w : List Piece). CanMove way.arc.minutes way.arc.cost (kept_at w starts)) (sym c.pieces.ensures.items)
    (entries_fit c.args.task.net.now c.args.task.request (bound_at c.args.task.bounds.now) way.id.0 c.args.v.0 way.arc leaves.is leaves.begins
    starts c.starts_at-starts.ensures.entries
    c.requires.asked.fit c.requires.asked.ends.until (value_at c.args.part.now) c.requires.reached)

pub returns-clause-driven : goal.returns-clause-driven
returns-clause-driven c =
    let way = c.args.way in
    let leaves = c.requires.way in
    let starts = c.starts_at-starts.result.now in
    let until = c.args.task.request.until in
    let ends = moved_at way.arc.minutes way.arc.cost (kept_at c.args.part.now starts) in
    let clear = c.in_ok-clear.clear in
    record {
      ends = ends;
      driven = entries_drive c.args.task.net.now c.args.task.request (bound_at c.args.task.bounds.now) way.id.0 c.args.v.0 way.arc leaves.is
          leaves.begins starts c.starts_at-starts.ensures.entries (value_at c.args.part.now) ends (λ t. refl);
      cleared = cleared_of (task_of c.args.task) c.args.progress.now.pairs.items c.args.progress.now.borders.items way.arc.head.0 way.bound ends
          (value_at clear) leaves.bound c.requires.borders
          (subst (λ (w : List Pair). IsPruned until w way.bound ends (value_at clear)) c.deref.ensures.value
          (subst (λ (w : List Piece). IsPruned until c.deref.result.now way.bound (moved_at way.arc.minutes way.arc.cost (kept_at w starts)) (value_at clear))
          c.pieces.ensures.items c.in_ok-clear.ensures.values));
    }
