use Rattle.std.proofs.Common.{◌≡◌, true, ℕ, ◌+◌, ◌-◌, ◌/◌, ◌||◌, ◌∙◌, ap, arith}
use Rattle.route_base.specs.Runs.{any_has}
use Rattle.covered_minutes.specs.LocalDays.{local_of, is_in, days_cover, local_covered}
use Rattle.covered_minutes.proofs.Algebra.{and_agree, inside_low, inside_high}
use Rattle.covered_minutes.proofs.CoveringDays.{days_enough}
use Rattle.covered_minutes.proofs.local_days.add_stretch.Goals as goal

pub returns : goal.returns
returns c = λ t.
    let s = c.args.stretch in
    let rules = c.args.hours.now in
    let holidays = c.args.holidays.now in
    let l : ℕ = local_of s.ahead t in
    let first : ℕ = (s.minutes.lo + s.ahead - 1080) / 1440 - 7 in
    let n : ℕ = c.days.day - first in
    c.days.invariant.minutes t
    ∙ ap (λ b. any_has c.args.runs.now.items t || b)
    (and_agree (is_in s t) (days_cover rules holidays first n l) (local_covered rules holidays l) (λ (inside : is_in s t ≡ true).
    let low = inside_low t s.minutes inside in
    let high = inside_high t s.minutes inside in
    days_enough rules holidays first n l
    (omega (arith, low, high, c.requires.from, c.requires.ahead))
    (omega (arith, low, high, c.requires.from, c.requires.ahead, c.days.invariant.upto, c.days.invariant.from, c.days-test.false))))
