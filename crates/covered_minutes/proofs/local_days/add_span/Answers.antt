use Rattle.std.proofs.Common.{◌||◌, ◌∙◌, ap}
use Rattle.route_base.specs.Runs.{any_has}
use Rattle.covered_minutes.proofs.Algebra.{any_pushed}
use Rattle.covered_minutes.proofs.local_days.add_span.Goals as goal

pub returns : goal.returns
returns c = λ t.
    ap (λ xs. any_has xs t) c.in_ok-push.ensures.items
    ∙ any_pushed c.args.runs.now.items c.run_of.result t
    ∙ ap (λ b. any_has c.args.runs.now.items t || b) (c.run_of.ensures t)
