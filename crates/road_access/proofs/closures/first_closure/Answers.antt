use Rattle.std.proofs.Common.{take, List, ap, sym, ◌∙◌}
use Rattle.route_base.specs.Runs.{any_has}
use Rattle.route_base.specs.declared.types.Run.{Run}
use Rattle.network_tables.specs.NetworkModel.{closures_of}
use Rattle.covered_minutes.proofs.Algebra.{any_pushed}
use Rattle.network_tables.proofs.ArcPlaces.{take_next}
use Rattle.road_access.proofs.closures.first_closure.Goals as goal

pub loop-k-preserved : goal.loop-k-preserved
loop-k-preserved c =
    let runs = closures_of c.args.network.now c.args.a.0 in
    ap (λ (rs : List Run). any_has rs c.args.t) (take_next runs c.loop-k.k c.closure.result c.closure.ensures)
    ∙ any_pushed (take c.loop-k.k runs) c.closure.result c.args.t
    ∙ rw (c.loop-k.invariant, sym c.is_within.ensures) c.if-is_within.false
