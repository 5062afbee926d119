use Rattle.std.proofs.Common.{◌-◌, sym, subst, arith}
use Rattle.std.proofs.lemmas.List.Elements.{All-set}
use Rattle.route_base.specs.Runs.{any_has}
use Rattle.cost_functions.specs.Pieces.{value_at}
use Rattle.cost_functions.specs.Building.{AreBuilt}
use Rattle.propagation.proofs.Lowering.{lowered}
use Rattle.propagation.proofs.progress.lower_at.Goals as goal

pub improve_with_spare-requires-clause-first : goal.improve_with_spare-requires-clause-first
improve_with_spare-requires-clause-first c = subst AreBuilt (sym c.index_mut.ensures.value)
    (c.requires.built (c.args.h.0 - 1) c.index_mut.result.now (omega (arith, c.requires.low, c.requires.high)))

pub returns-clause-lowered : goal.returns-clause-lowered
returns-clause-lowered c = lowered c.args.functions.now.items c.args.h.0 c.improve_with_spare.new.f (value_at c.args.offer.now)
    (any_has c.in_ok-improved.improved) c.index_mut.result.now
    c.requires.low c.requires.high c.index_mut.ensures.value c.in_ok-improved.ensures.values c.in_ok-improved.ensures.improved

pub returns-clause-built : goal.returns-clause-built
returns-clause-built c = All-set AreBuilt c.args.functions.now.items (c.args.h.0 - 1) c.improve_with_spare.new.f c.improve_with_spare.ensures.built
    c.requires.built
