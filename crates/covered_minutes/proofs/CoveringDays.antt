-- The days whose spans can hold a local minute.
use Rattle.std.proofs.Common.{◌≡◌, ℕ, ◌+◌, ◌-◌, ◌*◌, ◌/◌, ◌%◌, ◌<◌, ◌≤◌, Bool, true, leb, ltb, List, refl, sym, ◌∙◌, ap, arith}
use Rattle.std.specs.List.{list_any}
use Rattle.std.proofs.lemmas.Bool.{and_parts, and_from, leb-true, ltb-true, le-leb, lt-ltb}
use Rattle.opening_hours.specs.Holidays.{HolidayLists}
use Rattle.opening_hours.specs.Coverage.{day_spans, holds, is_covered}
use Rattle.opening_hours.specs.declared.types.HoursRule.{HoursRule}
use Rattle.opening_hours.proofs.CoverTests.{below_from}
use Rattle.covered_minutes.specs.LocalDays.{local_covered, day_covers, days_cover}
use Rattle.covered_minutes.proofs.Algebra.{any_guarded, below_found}
use Rattle.route_base.proofs.Logic.{same_from}

module _ (rules : List HoursRule) (holidays : HolidayLists) where
  abbrev spans_hold : ℕ → ℕ → Bool
  spans_hold at day = list_any (holds at) (day_spans rules holidays day)

  spans_same : (a b c d : ℕ) → a ≡ b → c ≡ d → spans_hold a c ≡ spans_hold b d
  spans_same a b c d e f = ap (λ x. spans_hold x c) e ∙ ap (λ x. spans_hold b x) f

  day_parts : (day l : ℕ) → day_covers rules holidays day l ≡ true
      → (1440 * day ≤ l) × (l < 1440 * (day + 8)) × (spans_hold (l - 1440 * day) day ≡ true)
  day_parts day l h =
      let parts =
      and_parts _ _ (sym (any_guarded (leb (1440 * day) l) (ltb l (1440 * (day + 8))) (holds (l - 1440 * day)) (day_spans rules holidays day)) ∙ h) in
      let others = and_parts _ _ parts.1 in
      (leb-true _ _ parts.0, ltb-true _ _ others.0, others.1)

  day_from : (day l : ℕ) → 1440 * day ≤ l → l < 1440 * (day + 8) → spans_hold (l - 1440 * day) day ≡ true
      → day_covers rules holidays day l ≡ true
  day_from day l low high h =
      any_guarded (leb (1440 * day) l) (ltb l (1440 * (day + 8))) (holds (l - 1440 * day)) (day_spans rules holidays day)
      ∙ and_from _ _ (le-leb _ _ low) (and_from _ _ (lt-ltb _ _ high) h)

  -- from seven days before the minute's day on up to that day
  pub days_enough : (first n l : ℕ) → first + 7 ≤ l / 1440 → l / 1440 < first + n
      → days_cover rules holidays first n l ≡ local_covered rules holidays l
  unfolding is_covered
  days_enough first n l early late = same_from _ _
      (λ h.
      let f = below_found (λ i. day_covers rules holidays (first + i) l) n h in
      let parts = day_parts (first + f.0) l f.2 in
      below_from (λ k. spans_hold (l % 1440 + 1440 * k) (l / 1440 - k)) 8 (l / 1440 - (first + f.0)) (omega (arith, parts.0, parts.1))
      (spans_same _ _ _ _ (omega (arith, parts.0, parts.1)) (omega (arith, parts.0, parts.1)) ∙ parts.2))
      (λ h.
      let f = below_found (λ k. spans_hold (l % 1440 + 1440 * k) (l / 1440 - k)) 8 h in
      let day : ℕ = l / 1440 - f.0 in
      let place : first + (day - first) ≡ day = omega (arith, f.1, early) in
      below_from (λ i. day_covers rules holidays (first + i) l) n (day - first) (omega (arith, f.1, early, late))
      (ap (λ d. day_covers rules holidays d l) place
      ∙ day_from day l (omega arith) (omega (arith, f.1)) (spans_same _ _ _ _ (omega (arith, f.1, early)) refl ∙ f.2)))
