use Rattle.network_tables.specs.NetworkModel.{closures_of}
use Rattle.std.proofs.Common.{◌∙◌, sym}
use Rattle.ban_expansion.proofs.AreaSets.{clipped_closure}
use Rattle.ban_expansion.proofs.closed_sets.closure_set.Goals as goal

pub returns-then-count-eq1-clause-minutes : goal.returns-then-count-eq1-clause-minutes
returns-then-count-eq1-clause-minutes c =
    let closures = closures_of c.args.network.now c.args.a.0 in
    let one = sym c.closure_count-count.ensures ∙ c.if-count-eq1.true in
    clipped_closure c.args.window c.closure-run.result c.clipped.result closures c.in_ok-set.set one c.closure-run.ensures c.clipped.ensures
    c.in_ok-set.ensures.minutes
