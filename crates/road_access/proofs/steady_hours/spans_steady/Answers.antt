use Rattle.std.proofs.Common.{◌≡◌, ◌-◌, length, List, ◌∷◌, get_or, take, drop, subst}
use Rattle.route_base.proofs.Lists.{first_and_rest}
use Rattle.road_access.specs.Inside.{SpansLeft}
use Rattle.opening_hours.specs.declared.types.TimeSpan.{TimeSpan}
use Rattle.road_access.proofs.SteadyHours.{next_span}
use Rattle.road_access.proofs.steady_hours.spans_steady.Goals as goal

pub spans-preserved : goal.spans-preserved
spans-preserved c =
    let left = c.spans.left.now in
    let span : TimeSpan = get_or left 0 (record { start = 0; length = 0 }) in
    let rest : List TimeSpan = take (length left - 1) (drop 1 left) in
    let split : left ≡ span ∷ rest = first_and_rest left (record { start = 0; length = 0 }) c.in-len1-up.len_at_least in
    let steady = c.span_steady-count.ensures in
    next_span c.args.at c.args.most c.args.spans.now span rest c.spans.count c.span_steady-count.result
    (subst (λ (spans : List TimeSpan). SpansLeft c.args.at c.args.most c.args.spans.now spans c.spans.count) split c.spans.invariant)
    steady.some steady.most steady.same
