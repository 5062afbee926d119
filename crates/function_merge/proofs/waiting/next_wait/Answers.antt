use Rattle.std.proofs.Common.{◌<◌, ◌≤◌, ◌+◌, ℕ, ◌∙◌, arith}
use Rattle.route_base.specs.Runs.{any_has}
use Rattle.function_merge.proofs.FirstPieces.{first_value, first_none, no_pieces}
use Rattle.function_merge.proofs.WaitSteps.{waited_gap, carried_gap, next_after}
use Rattle.function_merge.proofs.waiting.next_wait.Goals as goal

pub returns-in_default-left-clause-none : goal.returns-in_default-left-clause-none
returns-in_default-left-clause-none c = λ same values own before t late upto.
    waited_gap values (any_has c.args.runs.now) c.args.weight c.args.from (t + 1) (before ∙ c.in_default.is)
    (λ u after early. own u after ∙ no_pieces c.args.left.now u (omega (arith, c.in_default-left.len_below))) t late (omega arith)

pub returns-then-until-lo-clause-none : goal.returns-then-until-lo-clause-none
returns-then-until-lo-clause-none c = λ same values own before t late upto.
    waited_gap values (any_has c.args.runs.now) c.args.weight c.args.from (t + 1) (before ∙ c.in_default.is)
    (λ u after early. own u after ∙ first_none c.args.left.now c.in-len1-up.len_at_least c.requires.left.pieces u
    (omega (arith, after, early, upto, c.if-until-lo.true, c.max-lo.ensures))) t late (omega arith)

pub returns-clause-some : goal.returns-clause-some
returns-clause-some c = λ values own before.
    let left = c.args.left.now in
    let some = c.in-len1-up.len_at_least in
    let are = c.requires.left.pieces in
    let allowed = any_has c.args.runs.now in
    let from = c.args.from in
    let lo = c.max-lo.result in
    let late : from ≤ lo = omega (arith, c.max-lo.ensures) in
    let gap = λ (u : ℕ) (after : from ≤ u) (early : u < lo). own u after ∙ first_none left some are u (omega (arith, after, early, c.max-lo.ensures)) in
    let none = before ∙ c.in_default.is in
    next_after values allowed c.args.weight from lo c.args.until c.first_wait.result late none gap
    (c.first_wait.ensures values (λ t begun upto.
    own t (omega (arith, late, begun)) ∙ first_value left some are t (omega (arith, begun, c.max-lo.ensures)) upto)
    (carried_gap values allowed c.args.weight from lo none gap lo late (omega arith)))
