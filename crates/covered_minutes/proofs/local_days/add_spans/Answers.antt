use Rattle.std.proofs.Common.{ℕ, ◌&&◌, ◌||◌, Bool, take, get_or, sym, ap, ◌∙◌}
use Rattle.std.specs.List.{list_any}
use Rattle.std.proofs.Math.Bool.{or_assoc, and-or_distrib_left}
use Rattle.std.proofs.lemmas.List.Folds.{list_any_more}
use Rattle.route_base.specs.Runs.{any_has}
use Rattle.opening_hours.specs.declared.types.TimeSpan.{TimeSpan}
use Rattle.covered_minutes.specs.LocalDays.{local_of, is_in, span_holds}
use Rattle.covered_minutes.proofs.local_days.add_spans.Goals as goal

pub loop-span-preserved : goal.loop-span-preserved
loop-span-preserved c = λ t.
    let old : Bool = any_has c.args.runs.now.items t in
    let inside : Bool = is_in c.args.stretch t in
    let holds : TimeSpan → Bool = span_holds c.args.day (local_of c.args.stretch.ahead t) in
    let none : TimeSpan = record { start = 0; length = 0 } in
    let spans = c.args.spans.now in
    let k : ℕ = c.loop-span.span-index in
    let before : Bool = list_any holds (take k spans) in
    let here : Bool = holds (get_or spans k none) in
    c.in_ok-add_span.ensures t
    ∙ ap (λ b. b || (inside && here)) (c.loop-span.invariant t)
    ∙ or_assoc old (inside && before) (inside && here)
    ∙ ap (λ b. old || b) (sym (and-or_distrib_left inside before here))
    ∙ ap (λ b. old || (inside && b)) (sym (list_any_more holds spans k none c.loop-span-test.true))
