use Rattle.std.proofs.Common.{inl, inr, ◌+◌, arith, rules}
use Rattle.cost_functions.specs.Lines.{line_at}
use Rattle.certificate_check.specs.Inside.Passing.{goal_point}
use Rattle.certificate_check.proofs.Dominated.{dominated_later}
use Rattle.certificate_check.proofs.RelaxedSteps.{line_rises, within_shifted}
use Rattle.certificate_check.proofs.sweep.passes_until.Goals as goal

pub returns-then-is_dominated_or_late-clause-passes : goal.returns-then-is_dominated_or_late-clause-passes
returns-then-is_dominated_or_late-clause-passes c = λ s from before upto.
    let rise = line_rises c.args.piece c.args.t s c.requires.from from in
    inl (dominated_later c.args.until c.args.pairs.now c.args.passage.from (goal_point c.args.t c.value-here.result)
    (goal_point s (line_at c.args.piece s)) from
    (omega (arith, rise, c.value-here.ensures)) (c.if-is_dominated_or_late.ensures.0 (search rules)))

pub returns-then-is_dominated_or_late-2-clause-passes : goal.returns-then-is_dominated_or_late-2-clause-passes
returns-then-is_dominated_or_late-2-clause-passes c = λ s from before upto.
    let m = c.args.passage.minutes in
    let q = c.args.passage.cost in
    let rise = line_rises c.args.piece c.args.t s c.requires.from from in
    inr (λ in_time free. inr (dominated_later c.args.until c.args.pairs.now c.args.passage.to (goal_point (c.args.t + m) (c.value-here.result + q))
    (goal_point (s + m) (line_at c.args.piece s + q)) (omega (arith, from))
    (omega (arith, rise, c.value-here.ensures)) (c.if-is_dominated_or_late-2.ensures.0 (search rules))))

pub returns-in-Some-clause-passes : goal.returns-in-Some-clause-passes
returns-in-Some-clause-passes c = λ s from before upto. inr (λ in_time free. absurd (c.in-Some.ensures.closed s from before free))

pub returns-clause-passes : goal.returns-clause-passes
returns-clause-passes c = λ s from before upto.
    let m = c.args.passage.minutes in
    let q = c.args.passage.cost in
    let here = c.in_ok-end.ensures.within (s + m) (omega (arith, from)) (omega (arith, before)) in
    inr (λ in_time free. inl (within_shifted c.args.passage.values.now c.args.piece c.args.t s m q c.requires.from from
    (rw c.value-here.ensures at here)))
