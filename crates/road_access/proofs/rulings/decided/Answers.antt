use Rattle.std.proofs.Common.{sym, ◌∙◌}
use Rattle.std.proofs.lemmas.Option.{slice_get_within}
use Rattle.conditional_rules.specs.Decisions.{clause_holds}
use Rattle.conditional_rules.proofs.LastPlace.{there_at_last}
use Rattle.road_access.proofs.rulings.decided.Goals as goal

pub by_clause-requires : goal.by_clause-requires
by_clause-requires c =
    let clauses = c.in_ok-conditional.conditional.now in
    let found = there_at_last (clause_holds c.args.vehicle.now c.args.holidays.now c.args.wall.day c.args.wall.minute) clauses
    c.in_ok-place.place (sym c.deciding.ensures ∙ c.in_ok-place.was) in
    slice_get_within clauses c.in_ok-place.place found.0 found.1
