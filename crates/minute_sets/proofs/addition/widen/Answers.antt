use Rattle.std.proofs.Common.{◌≡◌, ◌+◌, ◌&&◌, ◌||◌, leb, ltb, get_or, ◌∙◌, ap, arith}
use Rattle.std.proofs.lemmas.List.{get_or_default}
use Rattle.route_base.specs.Runs.{has_minute}
use Rattle.route_base.specs.declared.types.Run.{Run}
use Rattle.minute_sets.proofs.MergedRuns.{any_replaced, both_have}
use Rattle.minute_sets.proofs.WidenedRuns.{widened_runs}
use Rattle.minute_sets.proofs.addition.widen.Goals as goal

pub returns-clause-minutes : goal.returns-clause-minutes
returns-clause-minutes c = λ t.
    let held = c.args.held.now.items in
    let k = c.args.place in
    let run = c.args.run in
    let own = c.index-own.result.now in
    let is : own ≡ get_or held k own = c.index-own.ensures in
    let begins = c.requires.begins own in
    let ends = c.requires.ends own in
    any_replaced (has_minute t) held k _ own (has_minute t run) c.requires.within
    (ap (λ m. leb c.min.result t && ltb t m) c.max.ensures
    ∙ both_have t own.lo own.hi run.lo run.hi c.min.result c.min.ensures
    (omega (arith, begins, ap (λ (r : Run). r.lo) is)) (omega (arith, ends, ap (λ (r : Run). r.hi) is))
    ∙ ap (λ r. has_minute t r || has_minute t run) is)

pub returns-clause-runs : goal.returns-clause-runs
returns-clause-runs c =
    let held = c.args.held.now.items in
    let k = c.args.place in
    let own = c.index-own.result.now in
    let is : own ≡ get_or held k own = c.index-own.ensures in
    let lo = ap (λ (r : Run). r.lo) is in
    let hi = ap (λ (r : Run). r.hi) is in
    let filled = c.requires.runs.filled k own c.requires.within in
    widened_runs held k _ c.requires.runs c.requires.within (omega (arith, filled, lo, hi, c.min.ensures, c.max.ensures))
    (λ j d from upto.
    (let early = c.requires.early j d from upto in
    let far = c.requires.runs.apart j k own upto c.requires.within in
    let same = get_or_default held j d own (omega (arith, upto, c.requires.within)) in
    omega (arith, early, far, ap (λ (r : Run). r.hi) same, lo, c.min.ensures)))
    (λ d within.
    (let next = c.requires.next d within in
    let far = c.requires.runs.apart k (k + 1) d (omega arith) within in
    let same = get_or_default held k d own c.requires.within in
    omega (arith, next, far, ap (λ (r : Run). r.hi) same, hi, c.max.ensures)))
