use Rattle.std.proofs.Common.{List, refl, sym, ◌∙◌, ap, subst}
use Rattle.std.specs.Prelude.{IsSome}
use Rattle.route_base.specs.Net.{runs_by}
use Rattle.route_base.specs.declared.types.Run.{Run}
use Rattle.propagation.specs.Inside.EntrySets.{HasEntriesAt}
use Rattle.propagation.proofs.drives.place_for.Goals as goal

pub closed_runs-closed-requires : goal.closed_runs-closed-requires
closed_runs-closed-requires c = subst IsSome (sym c.requires.is) refl

pub ready_set-requires-clause-own : goal.ready_set-requires-clause-own
ready_set-requires-clause-own c = sym (c.closed_runs-closed.ensures.value ∙ ap (runs_by c.args.task.net.now) c.requires.is)

pub returns-clause-ready : goal.returns-clause-ready
returns-clause-ready c = (
  c.in_ok-place.ensures.list,
  subst (λ (w : List Run). HasEntriesAt w c.args.task.request.until c.args.way.arc.minutes c.ready_set.new.sets c.args.way.arc.closed c.in_ok-place.place)
      c.closed_runs-closed.ensures.value c.in_ok-place.ensures.set,
)
