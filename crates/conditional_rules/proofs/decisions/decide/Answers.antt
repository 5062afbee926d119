use Rattle.std.proofs.Common.{ℕ, Option, slice_get, sym, ap, ◌∙◌}
use Rattle.std.specs.Option.{option_map, option_and_then}
use Rattle.conditional_rules.specs.Decisions.{clause_holds}
use Rattle.conditional_rules.specs.declared.access.Access.{Access}
use Rattle.conditional_rules.proofs.LastPlace.{given_at_last}
use Rattle.conditional_rules.proofs.decisions.decide.Goals as goal

pub returns-in_err-place : goal.returns-in_err-place
returns-in_err-place c =
    let clauses = c.args.conditional.now in
    let gives : ℕ → Option Access = λ i. option_map (λ c. c.access) (slice_get clauses i) in
    c.from_residual.ensures
    ∙ ap (option_and_then gives) c.in_err-place.ensures
    ∙ given_at_last (clause_holds c.args.vehicle.now c.args.holidays.now c.args.day c.args.minute) (λ c. c.access) clauses

pub returns : goal.returns
returns c =
    let clauses = c.args.conditional.now in
    let gives : ℕ → Option Access = λ i. option_map (λ c. c.access) (slice_get clauses i) in
    c.access_of_clause.ensures
    ∙ ap (option_and_then gives) (sym c.in_ok-place.was ∙ c.deciding.ensures)
    ∙ given_at_last (clause_holds c.args.vehicle.now c.args.holidays.now c.args.day c.args.minute) (λ c. c.access) clauses
