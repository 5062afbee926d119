use Rattle.std.proofs.Common.{◌≡◌, ◌≤◌, ◌<◌, ◌-◌, ◌&&◌, ◌||◌, leb, ltb, length, get_or, ◌∙◌, ap, arith}
use Rattle.std.specs.Vec.{vec_len}
use Rattle.route_base.specs.Runs.{has_minute}
use Rattle.route_base.specs.declared.types.Run.{Run}
use Rattle.minute_sets.proofs.MergedRuns.{any_replaced, both_have}
use Rattle.minute_sets.proofs.merge.add.Goals as goal

pub returns-in-Some-clause-minutes : goal.returns-in-Some-clause-minutes
returns-in-Some-clause-minutes c = λ t.
    let xs = c.args.merged.now.items in
    let i = vec_len c.args.merged.now - 1 in
    let last = c.in-Some.last.now in
    let run = c.args.run in
    let within : i < length xs = omega (arith, c.in-Some.ensures.item.3.0) in
    let value : last ≡ get_or xs i last = c.in-Some.ensures.value in
    let begins : last.lo ≤ run.lo = omega (arith, c.requires.later i last within, ap (λ (r : Run). r.lo) value) in
    let filled : run.lo < run.hi = omega arith in
    let reaches : run.lo ≤ last.hi = omega arith in
    any_replaced (has_minute t) xs i _ last (has_minute t run) within
    (ap (λ m. leb last.lo t && ltb t m) c.max-last.ensures
    ∙ both_have t last.lo last.hi run.lo run.hi last.lo (omega (arith, begins)) (omega (arith, begins, filled)) reaches
    ∙ ap (λ r. has_minute t r || has_minute t run) value)
