-- The test of what hours cover.
use Rattle.std.proofs.Common.{◌≡◌, ℕ, ◌+◌, ◌-◌, ◌*◌, ◌↔◌, true, List, arith}
use Rattle.std.specs.List.{list_any}
use Rattle.opening_hours.specs.Holidays.{HolidayLists}
use Rattle.opening_hours.specs.Coverage.{day_spans, holds, is_covered, IsCovered}
use Rattle.opening_hours.specs.declared.types.HoursRule.{HoursRule}
use Rattle.opening_hours.proofs.CoverTests.{below_from}
use Rattle.covered_minutes.proofs.Algebra.{below_found}

pub cover_test : (rules : List HoursRule) (holidays : HolidayLists) (day minute : ℕ)
    → (is_covered rules holidays day minute ≡ true) ↔ IsCovered rules holidays day minute
unfolding is_covered
cover_test rules holidays day minute = (
  (λ h.
      let f = below_found (λ k. list_any (holds (minute + 1440 * k)) (day_spans rules holidays (day - k))) 8 h in
      (f.0, omega (arith, f.1), f.2)),
  (λ is. below_from (λ k. list_any (holds (minute + 1440 * k)) (day_spans rules holidays (day - k))) 8 is.0 (omega (arith, is.1)) is.2),
)
