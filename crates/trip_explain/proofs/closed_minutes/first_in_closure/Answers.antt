use Rattle.std.proofs.Common.{take, List, sym, subst}
use Rattle.route_base.specs.declared.types.Run.{Run}
use Rattle.network_tables.specs.NetworkModel.{closures_of}
use Rattle.trip_explain.specs.Inside.{IsFirstWithin}
use Rattle.network_tables.proofs.ArcPlaces.{take_next}
use Rattle.trip_explain.proofs.FirstMinutes.{one_run_more}
use Rattle.trip_explain.proofs.closed_minutes.first_in_closure.Goals as goal

pub loop-k-preserved : goal.loop-k-preserved
loop-k-preserved c =
    let runs = closures_of c.args.network.now c.args.a.0 in
    subst (λ (rs : List Run). IsFirstWithin rs c.args.from c.args.end c.earlier_in-first.result)
    (sym (take_next runs c.loop-k.k c.closure.result c.closure.ensures))
    (one_run_more (take c.loop-k.k runs) c.closure.result c.args.from c.args.end c.loop-k.first c.earlier_in-first.result
    c.loop-k.invariant c.earlier_in-first.ensures.from c.earlier_in-first.ensures.to c.earlier_in-first.ensures.before
    c.earlier_in-first.ensures.here)
