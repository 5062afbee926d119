use Rattle.std.proofs.Common.{◌≡◌, ◌+◌, Option, List, [], ◌∷◌, sym, ◌∙◌, ap, subst, arith, length, length-append}
use Rattle.route_base.specs.declared.types.Bound.{Bound}
use Rattle.label_queue.specs.Keys.{key_at}
use Rattle.potentials.proofs.Lists.{read_at}
use Rattle.potentials.specs.Sums.{bound_at}
use Rattle.potentials.specs.Inside.Caps.{bound_in, costs_of}
use Rattle.potentials.proofs.LeastBounds.{bound_pushed}
use Rattle.potentials.proofs.bounds.bounds_of.Goals as goal

pub loop-place-preserved : goal.loop-place-preserved
loop-place-preserved c =
    let place = c.loop-place.place in
    let caps = c.args.caps in
    let minutes = c.args.sums.now.minutes.items in
    let costs = costs_of c.args.sums.now in
    let m = read_at minutes place c.index.result.now (omega arith) c.index.ensures in
    let new = c.bound_with.ensures ∙ (ap (λ o. bound_in caps o c.cost_at.result) (sym m)
    ∙ ap (λ o. bound_in caps (key_at minutes (place + 1)) o) c.cost_at.ensures) in
    record {
      long = ap (λ (w : List (Option Bound)). length w) c.in_ok-push.ensures.ok
          ∙ omega (arith, length-append c.loop-place.bounds (c.bound_with.result ∷ []), c.loop-place.invariant.long);
      each = λ k lt. subst (λ w. bound_at w (k + 1) ≡ bound_in caps (key_at minutes (k + 1)) (key_at costs (k + 1)))
          (sym c.in_ok-push.ensures.ok)
          (bound_pushed c.loop-place.bounds c.bound_with.result place
          (λ n. bound_in caps (key_at minutes (n + 1)) (key_at costs (n + 1))) c.loop-place.invariant.long
          c.loop-place.invariant.each new k lt);
    }
