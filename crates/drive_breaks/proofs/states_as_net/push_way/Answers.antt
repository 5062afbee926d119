use Rattle.std.proofs.Common.{rules, ◌+◌, ◌++◌, ◌∷◌, [], List, length, inr, ◌∙◌, ap}
use Rattle.std.proofs.lemmas.Result.{IfOk-weaker}
use Rattle.route_base.specs.declared.types.Leg.{Leg}
use Rattle.route_base.specs.declared.types.TimedArc.{TimedArc}
use Rattle.drive_breaks.proofs.Built.{copy_for, headed}
use Rattle.drive_breaks.proofs.states_as_net.push_way.Goals as goal

pub returns : goal.returns
returns c =
    let last = length c.args.ground.states.now + 1 in
    let copy : TimedArc = headed c.arc_of-arc.result last in
    IfOk-weaker c.push_arc-2.result _ _ (λ _ both. (
      c.arc_of-arc.result,
      c.arc_of-arc.ensures,
      inr (
        c.arrives.ensures.yes (search rules),
        copy,
        copy_for c.args.ground.net.now c.args.ground.states.now c.args.way.from c.args.way.to last c.args.way.leg c.arc_of-arc.result c.arc_of-arc.ensures,
        both.0 ∙ ap (λ (w : List TimedArc). w ++ copy ∷ []) c.in_ok-push_arc.ensures.0,
        both.1 ∙ ap (λ (w : List Leg). w ++ c.args.way.leg ∷ []) c.in_ok-push_arc.ensures.1,
      ),
    ))
    c.push_arc-2.ensures
