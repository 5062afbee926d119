use Rattle.std.proofs.Common.{Bool, ◌||◌, not, ap, sym, ◌∙◌}
use Rattle.route_base.specs.Runs.{any_has}
use Rattle.network_tables.specs.NetworkModel.{closures_of}
use Rattle.road_access.proofs.FirstRuns.{found_exactly}
use Rattle.road_access.proofs.access.closed_at.Goals as goal

pub returns-else-not-is_let_in_at : goal.returns-else-not-is_let_in_at
returns-else-not-is_let_in_at c =
    let runs = closures_of c.args.network.now c.args.a.0 in
    c.is_some.ensures
    ∙ found_exactly runs c.args.t c.first_closure.result c.first_closure.ensures.some c.first_closure.ensures.none
    ∙ ap (λ (b : Bool). not b || any_has runs c.args.t) (sym (sym c.is_let_in_at.ensures ∙ c.if-not-is_let_in_at.false))
