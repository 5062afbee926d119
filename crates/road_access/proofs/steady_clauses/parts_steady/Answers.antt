use Rattle.std.proofs.Common.{◌≡◌, ◌-◌, length, List, ◌∷◌, take, drop, sym, ap, subst, ◌∙◌}
use Rattle.route_base.proofs.Lists.{first_and_rest}
use Rattle.road_access.specs.Inside.{PartsLeft}
use Rattle.conditional_rules.specs.declared.conditional.Part.{Part}
use Rattle.road_access.proofs.SteadyClauses.{all_parts, next_part}
use Rattle.road_access.proofs.steady_clauses.parts_steady.Goals as goal

pub parts-preserved : goal.parts-preserved
parts-preserved c =
    let left = c.parts.left.now in
    let part : Part = c.part-item.result in
    let rest : List Part = take (length left - 1) (drop 1 left) in
    let split : left ≡ part ∷ rest = first_and_rest left part c.in-len1-up.len_at_least ∙ ap (λ (p : Part). p ∷ rest) (sym c.part-item.is) in
    let steady = c.part_steady-count.ensures in
    next_part c.args.minute c.args.most c.args.parts.now part rest c.parts.count c.part_steady-count.result
    (subst (λ (parts : List Part). PartsLeft c.args.minute c.args.most c.args.parts.now parts c.parts.count) split c.parts.invariant)
    steady.some steady.most steady.same

pub returns-clause-same : goal.returns-clause-same
returns-clause-same c =
    all_parts c.args.minute c.args.most c.args.parts.now c.parts.left.now c.parts.count c.parts.invariant c.in_default.len_below
