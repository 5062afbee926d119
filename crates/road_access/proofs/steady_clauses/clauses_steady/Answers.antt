use Rattle.std.proofs.Common.{◌≡◌, ◌-◌, length, List, ◌∷◌, take, drop, sym, ap, subst, ◌∙◌}
use Rattle.route_base.proofs.Lists.{first_and_rest}
use Rattle.road_access.specs.Inside.{ClausesLeft, HoldSteadily}
use Rattle.conditional_rules.specs.declared.conditional.Clause.{Clause}
use Rattle.conditional_rules.specs.declared.conditional.Part.{Part}
use Rattle.road_access.proofs.SteadyClauses.{all_clauses, next_clause}
use Rattle.road_access.proofs.steady_clauses.clauses_steady.Goals as goal

pub clauses-preserved : goal.clauses-preserved
clauses-preserved c =
    let left = c.clauses.left.now in
    let clause : Clause = c.clause-item.result in
    let rest : List Clause = take (length left - 1) (drop 1 left) in
    let split : left ≡ clause ∷ rest =
    first_and_rest left clause c.in-len1-up.len_at_least ∙ ap (λ (p : Clause). p ∷ rest) (sym c.clause-item.is) in
    let steady = c.parts_steady-count.ensures in
    next_clause c.args.minute c.args.most c.args.conditional.now clause rest c.clauses.count c.parts_steady-count.result
    (subst (λ (clauses : List Clause). ClausesLeft c.args.minute c.args.most c.args.conditional.now clauses c.clauses.count)
    split c.clauses.invariant)
    steady.some steady.most
    (subst (λ (parts : List Part). HoldSteadily parts c.args.minute c.parts_steady-count.result) c.as_slice.ensures steady.same)

pub returns-clause-same : goal.returns-clause-same
returns-clause-same c =
    all_clauses c.args.minute c.args.most c.args.conditional.now c.clauses.left.now c.clauses.count c.clauses.invariant c.in_default.len_below
