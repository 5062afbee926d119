-- The test whether hours cover a minute.
use Rattle.std.proofs.Common.{◌≡◌, ⊎_elim, ℕ, zero, suc, ◌+◌, ◌-◌, ◌*◌, ◌<◌, ◌||◌, Bool, true, false, List, [], ◌∷◌, Option, Some, None}
use Rattle.std.proofs.Common.{if◌then◌else◌, arith, refl, sym, ap, ◌∙◌}
use Rattle.std.proofs.lemmas.Bool.{or_left, or_right, cases_eq}
use Rattle.std.specs.List.{list_any}
use Rattle.opening_hours.specs.Holidays.{HolidayLists}
use Rattle.std.specs.Option.{option_or}
use Rattle.opening_hours.specs.Coverage.{day_spans, holds, any_below, is_covered, spans_of, spans_of_times}
use Rattle.opening_hours.specs.Matching.{facts_of, governing, matches}
use Rattle.opening_hours.specs.declared.matching.DayFacts.{DayFacts}
use Rattle.opening_hours.specs.declared.types.HoursRule.{HoursRule}

pub below_from : (p : ℕ → Bool) (n i : ℕ) → i < n → p i ≡ true → any_below p n ≡ true
below_from p zero i within h = absurd (omega (arith, within))
below_from p (suc n) i within h =
    ⊎_elim
    (λ (same : i ≡ n). or_right (any_below p n) (p n) (ap p (sym same) ∙ h))
    (λ (other : i ≡ n → ⊥). or_left (any_below p n) (p n) (below_from p n i (omega (arith, within, other)) h))
    (cases_eq i n)

-- one of the eight days covers the minute, and none does
pub one_covers : (rules : List HoursRule) (holidays : HolidayLists) (day minute k : ℕ) → k < 8
    → list_any (holds (minute + 1440 * k)) (day_spans rules holidays (day - k)) ≡ true → true ≡ is_covered rules holidays day minute
unfolding is_covered
one_covers rules holidays day minute k low h =
    sym (below_from (λ j. list_any (holds (minute + 1440 * j)) (day_spans rules holidays (day - j))) 8 k low h)

or_none : (a b : Bool) → false ≡ a → b ≡ false → false ≡ (a || b)
or_none false b e h = sym h
or_none true b e h = absurd cc

below_none : (p : ℕ → Bool) (n : ℕ) → ((i : ℕ) → i < n → p i ≡ false) → false ≡ any_below p n
below_none p zero h = refl
below_none p (suc n) h = or_none (any_below p n) (p n) (below_none p n (λ i low. h i (omega (arith, low)))) (h n (omega arith))

pub none_covers : (rules : List HoursRule) (holidays : HolidayLists) (day minute : ℕ)
    → ((k : ℕ) → k < 8 → list_any (holds (minute + 1440 * k)) (day_spans rules holidays (day - k)) ≡ false)
    → false ≡ is_covered rules holidays day minute
unfolding is_covered
none_covers rules holidays day minute h = below_none (λ j. list_any (holds (minute + 1440 * j)) (day_spans rules holidays (day - j))) 8 h

-- the rule that governs a day is one of the rules
governing_fails : (at : ℕ) (b : Bool) (r : HoursRule) (o : Option HoursRule) → list_any (holds at) (spans_of_times r.times) ≡ false
    → list_any (holds at) (spans_of o) ≡ false → list_any (holds at) (spans_of (option_or o (if b then Some r else None))) ≡ false
governing_fails at b r (Some q) fails later = later
governing_fails at true r None fails later = fails
governing_fails at false r None fails later = later

both_fail : (a b : Bool) → (a || b) ≡ false → (a ≡ false) × (b ≡ false)
both_fail true b none = absurd cc
both_fail false b none = (refl, none)

none_among : (at : ℕ) (f : DayFacts) (rules : List HoursRule)
    → list_any (λ r. list_any (holds at) (spans_of_times r.times)) rules ≡ false → list_any (holds at) (spans_of (governing f rules)) ≡ false
none_among at f [] none = refl
none_among at f (r ∷ rs) none =
    let both = both_fail (list_any (holds at) (spans_of_times r.times)) (list_any (λ q. list_any (holds at) (spans_of_times q.times)) rs) none in
    governing_fails at (matches f r) r (governing f rs) both.0 (none_among at f rs both.1)

-- where no rule has a span that holds the minute, none of the day holds it
pub none_governs : (at : ℕ) (rules : List HoursRule) (holidays : HolidayLists) (day : ℕ)
    → list_any (λ r. list_any (holds at) (spans_of_times r.times)) rules ≡ false → false ≡ list_any (holds at) (day_spans rules holidays day)
none_governs at rules holidays day none = sym (none_among at (facts_of holidays day) rules none)
