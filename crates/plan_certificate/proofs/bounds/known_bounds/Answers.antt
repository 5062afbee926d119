use Rattle.std.proofs.Common.{◌+◌, ℕ, Option, List, sym, ◌∙◌, ap, subst, refl, arith}
use Rattle.std.specs.Option.{option_flatten}
use Rattle.route_base.specs.declared.types.Bound.{Bound}
use Rattle.route_base.specs.declared.types.NodeId.{NodeId}
use Rattle.route_base.proofs.Numbered.{number_past}
use Rattle.potentials.specs.Sums.{bound_at}
use Rattle.plan_certificate.proofs.Choosing.{AreChosen, choose, choose_none, all_chosen}
use Rattle.plan_certificate.proofs.bounds.known_bounds.Goals as goal
use Rattle.plan_certificate.proofs.bounds.known_bounds.Goals.{in-Some+in_ok-push, in_default}

pub loop-v-preserved : goal.loop-v-preserved
loop-v-preserved c =
    let items : ℕ → Option Bound = bound_at c.args.bounds.now in
    let node : NodeId = record { 0 = c.loop-v.v + 1 } in
    elim c.match-get.branch [
      | in-Some+in_ok-push w ↦ subst (λ (es : List (NodeId × Bound)). AreChosen items (c.loop-v.v + 1) es) (sym (w.known-is ∙ w.in_ok-push.ensures.ok))
          (choose items c.loop-v.v c.loop-v.known c.loop-v.invariant (node, w.in-Some.bound) refl (sym c.get.ensures ∙ w.in-Some.is))
      | in_default w ↦ subst (λ (es : List (NodeId × Bound)). AreChosen items (c.loop-v.v + 1) es) (sym w.known-is)
          (choose_none items c.loop-v.v c.loop-v.known c.loop-v.invariant (sym c.get.ensures ∙ w.in_default.is))
    ]

pub returns : goal.returns
returns c =
    let bounds = c.args.bounds.now in
    all_chosen (bound_at bounds) c.loop-v.v c.loop-v.known c.loop-v.invariant
    (λ v past. ap option_flatten (number_past bounds v (omega (arith, past, c.loop-v-test.false, c.requires))))
