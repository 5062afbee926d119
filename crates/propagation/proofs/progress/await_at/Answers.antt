use Rattle.std.proofs.Common.{◌-◌, length-set}
use Rattle.route_base.specs.Runs.{any_has}
use Rattle.propagation.proofs.Splitting.{awaited}
use Rattle.propagation.proofs.progress.await_at.Goals as goal

pub returns-clause-awaits : goal.returns-clause-awaits
returns-clause-awaits c = awaited c.args.pending.now.items c.args.h.0 c.index_mut.result.now c.add_improved.new.own (any_has c.args.improved)
    c.requires.low c.requires.high c.index_mut.ensures.value c.in_ok-add_improved.ensures

pub returns-clause-nodes : goal.returns-clause-nodes
returns-clause-nodes c = length-set c.args.pending.now.items (c.args.h.0 - 1) c.add_improved.new.own
