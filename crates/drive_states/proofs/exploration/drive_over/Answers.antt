use Rattle.std.proofs.Common.{inl, sym, ◌∙◌, arith}
use Rattle.std.proofs.lemmas.Result.{IfOk-weaker}
use Rattle.drive_states.proofs.Found.{departs_by}
use Rattle.drive_states.proofs.exploration.drive_over.Goals as goal

pub returns-clause-took : goal.returns-clause-took
returns-clause-took c = IfOk-weaker c.reach.result _ _ (λ _ reached. inl (
  _,
  departs_by c.args.plan.net.now c.args.plan.rule c.args.from c.args.a c.in-Some.arc (sym c.arc.ensures.value ∙ c.in-Some.is) c.requires.tail
      (omega (arith, c.if-from-plan.false, c.if-arc-plan.false)),
  reached,
)) c.reach.ensures.reached

pub returns-clause-many : goal.returns-clause-many
returns-clause-many c = λ is.
    (let over = c.reach.ensures.many is in (
      (
        _,
        departs_by c.args.plan.net.now c.args.plan.rule c.args.from c.args.a c.in-Some.arc (sym c.arc.ensures.value ∙ c.in-Some.is) c.requires.tail
            (omega (arith, c.if-from-plan.false, c.if-arc-plan.false)),
        over.0,
      ),
      over.1,
      over.2,
    ))
