use Rattle.std.proofs.Common.{◌≡◌, ◌+◌, ℕ, Some, List, ◌∷◌, drop, get_or, sym, ◌∙◌, ap, arith}
use Rattle.std.specs.Prelude.{unwrap_or}
use Rattle.std.proofs.lemmas.List.{drop_more, get_or_default}
use Rattle.route_base.specs.declared.types.Leg.{Leg}
use Rattle.route_base.specs.declared.types.Leg.TheVariants.{Wait}
use Rattle.latest_departure.specs.Inside.Mirror.{behind_last, free_to_in, own_legs_of}
use Rattle.latest_departure.proofs.OwnLegs.{one_leg_on, whatever_else}
use Rattle.latest_departure.proofs.routes.first_own.Goals.{then-node-goal, else-node-goal}
use Rattle.latest_departure.proofs.routes.first_own.Goals as goal

pub loop-i-preserved : goal.loop-i-preserved
loop-i-preserved c =
    let net = c.args.net.now in
    let legs = c.args.legs.now in
    let to = c.args.goal.0 in
    let leg : Leg = get_or legs c.loop-i.i (Wait 0) in
    let next = drop (c.loop-i.i + 1) legs in
    let is : drop c.loop-i.i legs ≡ leg ∷ next = drop_more legs c.loop-i.i (Wait 0) c.loop-i-test.true in
    let free : free_to_in net c.loop-i.node leg ≡ Some c.in-Some.next =
    ap (free_to_in net c.loop-i.node) (get_or_default legs c.loop-i.i (Wait 0) _ c.loop-i-test.true) ∙ sym c.free_to.ensures ∙ c.in-Some.is in
    let on : own_legs_of net c.args.goal legs ≡ unwrap_or (behind_last net to c.in-Some.next next) (drop c.loop-i.own legs) =
    c.loop-i.invariant.same
    ∙ ap (λ (w : List Leg). unwrap_or (behind_last net to c.loop-i.node w) (drop c.loop-i.own legs)) is
    ∙ one_leg_on net to c.loop-i.node c.in-Some.next leg next (drop c.loop-i.own legs) free
    (λ same. ap (λ (k : ℕ). drop k legs) (c.loop-i.invariant.here same) ∙ is) in
    elim c.if-node-goal.branch [
      | then-node-goal w ↦ record {
        within = omega (arith, w.own-is);
        here = λ same. omega (arith, w.own-is);
        same = on ∙ whatever_else net to c.in-Some.next next (drop c.loop-i.own legs) (drop c.if-node-goal.own legs) w.if-node-goal.true;
      }
      | else-node-goal w ↦ record {
        within = omega (arith, w.own-is, c.loop-i.invariant.within);
        here = λ same. absurd (w.if-node-goal.false same);
        same = on ∙ ap (λ (k : ℕ). unwrap_or (behind_last net to c.in-Some.next next) (drop k legs)) (sym w.own-is);
      }
    ]
