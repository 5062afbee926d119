use Rattle.std.proofs.Common.{List, sym, subst}
use Rattle.route_base.specs.Front.{RiseAndFall}
use Rattle.route_base.specs.declared.types.Pair.{Pair}
use Rattle.cost_functions.specs.Pieces.{value_at}
use Rattle.function_merge.specs.Pruning.{IsPruned}
use Rattle.propagation.specs.Inside.States.{task_of}
use Rattle.propagation.proofs.Offering.{cleared_of}
use Rattle.propagation.proofs.drives.cleared.Goals as goal

pub into_pruned-requires-clause-trade : goal.into_pruned-requires-clause-trade
into_pruned-requires-clause-trade c = subst RiseAndFall (sym c.deref.ensures.value) c.requires.borders.trade

pub returns-clause-cleared : goal.returns-clause-cleared
returns-clause-cleared c = cleared_of (task_of c.args.task) c.args.progress.now.pairs.items c.args.progress.now.borders.items c.args.h.0 c.args.bound
    (value_at c.args.costs) (value_at c.into_pruned.result) c.requires.is c.requires.borders
    (subst (λ (w : List Pair). IsPruned c.args.task.request.until w c.args.bound (value_at c.args.costs) (value_at c.into_pruned.result))
    c.deref.ensures.value c.into_pruned.ensures.values)
