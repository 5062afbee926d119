use Rattle.std.proofs.Common.{◌≡◌, ◌-◌, ◌+◌, ◌∷◌, ◌++◌, [], suc, length, sym, ◌∙◌, ap, subst, arith}
use Rattle.std.specs.Prelude.{slice_get}
use Rattle.std.proofs.lemmas.List.{length_push}
use Rattle.route_base.proofs.Items.{slice_get-push_end}
use Rattle.ruled_states.specs.Inside.Labels.{label_bound, lists_of}
use Rattle.ruled_states.specs.Inside.Latest.{IsInTime, AreInTime}
use Rattle.ruled_states.proofs.InTime.{one_in_time, in_time_push, are_latest}
use Rattle.ruled_states.proofs.latest.latest_by_left.Goals as goal

pub loop-left-init : goal.loop-left-init
loop-left-init g c =
    let r = g.R.Ruler.ruling c.args.ruler.now in
    let bound = label_bound r (lists_of c.args.labels.now.minutes.items) (lists_of c.args.labels.now.costs.items) in
    let one = c.in_ok-push.ensures.items ∙ ap (λ xs. xs ++ c.args.until ∷ []) c.new-minutes.ensures.items in
    record {
      count = ap length one;
      last = ap (λ xs. slice_get xs 0) one;
      in_time = subst (AreInTime r c.args.until bound) (sym one) (one_in_time r c.args.until bound);
    }

pub loop-left-preserved : goal.loop-left-preserved
loop-left-preserved g c =
    let r = g.R.Ruler.ruling c.args.ruler.now in
    let bound = label_bound r (lists_of c.args.labels.now.minutes.items) (lists_of c.args.labels.now.costs.items) in
    let n = c.loop-left.left in
    let was = c.loop-left.minutes.items in
    let i = c.loop-left.invariant in
    let latest = c.latest_before-latest.result in
    let items = c.in_ok-push-2.ensures.items in
    let step : IsInTime r bound (length r.services - suc n) c.loop-left.latest latest =
    subst (λ k. IsInTime r bound k c.loop-left.latest latest) (omega (arith, c.service_count-count.ensures, c.loop-left-test.true))
    c.latest_before-latest.ensures.in_time in
    let at : n + 1 ≡ length was = omega (arith, i.count) in
    record {
      count = ap length items ∙ length_push was latest ∙ omega (arith, i.count);
      last = ap (slice_get c.push-in-loop-left.new.self.items) at ∙ ap (λ xs. slice_get xs (length was)) items ∙ slice_get-push_end was latest;
      in_time = subst (AreInTime r c.args.until bound) (sym items)
          (in_time_push r c.args.until bound was n c.loop-left.latest latest i.count i.last c.latest_before-latest.ensures.low step i.in_time);
    }

pub returns : goal.returns
returns g c =
    let r = g.R.Ruler.ruling c.args.ruler.now in
    let bound = label_bound r (lists_of c.args.labels.now.minutes.items) (lists_of c.args.labels.now.costs.items) in
    let i = c.loop-left.invariant in
    are_latest r c.args.until bound c.loop-left.minutes.items
    (omega (arith, i.count, c.loop-left-test.false, c.loop-left.auto.left-end, c.service_count-count.ensures))
    (g.met.R.Ruler.staged c.args.ruler.now) i.in_time
