use Rattle.std.proofs.Common.{◌≡◌, true, ◌||◌, ◌+ℤ◌, pos, unsigned_abs, ◌∙◌, ap, sym, arith}
use Rattle.route_base.specs.Runs.{has_minute, any_has}
use Rattle.covered_minutes.specs.LocalDays.{local_covered, local_of}
use Rattle.covered_minutes.proofs.Algebra.{and_agree, inside_low, inside_high}
use Rattle.covered_minutes.proofs.coverage.add_minutes.Goals as goal

pub returns : goal.returns
returns c = λ t.
    let rules = c.args.hours.now in
    let holidays = c.args.holidays.now in
    c.in_ok-add_stretch.ensures t
    ∙ ap (λ b. any_has c.args.runs.now.items t || b)
    (and_agree (has_minute t c.args.minutes) (local_covered rules holidays (local_of c.ahead_of-ahead.result t))
    (local_covered rules holidays (unsigned_abs (pos t +ℤ c.args.row.offset)))
    (λ (inside : has_minute t c.args.minutes ≡ true).
    let low = inside_low t c.args.minutes inside in
    let high = inside_high t c.args.minutes inside in
    let from = c.requires.window.from (omega (arith, low, high)) in
    ap (local_covered rules holidays) (sym (c.ahead_of-ahead.ensures.local t (omega (arith, low, from))))))
