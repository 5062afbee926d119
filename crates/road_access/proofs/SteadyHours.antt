-- Minutes throughout which spans hold, from one span to the hours.
use Rattle.std.proofs.Common.{◌≡◌, ℕ, zero, suc, ◌+◌, ◌-◌, ◌*◌, ◌<◌, ◌≤◌, ◌||◌, Bool, true, false, Option, Some, None, List, [], ◌∷◌, length, slice_get}
use Rattle.std.proofs.Common.{if◌then◌else◌, arith, refl, sym, ap, subst, ⊎_elim, ◌∙◌}
use Rattle.std.proofs.lemmas.Bool.{cases_eq}
use Rattle.std.proofs.lemmas.Option.{slice_get_within}
use Rattle.std.specs.List.{list_any}
use Rattle.std.specs.Option.{option_or}
use Rattle.opening_hours.specs.Coverage.{any_below, day_spans, holds, is_covered, spans_of, spans_of_times}
use Rattle.opening_hours.specs.Matching.{facts_of, governing, matches}
use Rattle.road_access.specs.Inside.{AreSteady, CoverSteadily, DaysSeen, GovernSteadily, RulesSeen, SpansLeft}
use Rattle.opening_hours.specs.declared.types.HoursRule.{HoursRule}
use Rattle.opening_hours.specs.declared.types.TimeSpan.{TimeSpan}

one_more : (at n : ℕ) (span : TimeSpan) (rest : List TimeSpan) → ((k : ℕ) → k < n → holds (at + k) span ≡ holds at span)
    → AreSteady at n rest → AreSteady at n (span ∷ rest)
one_more at n span rest same steady k low =
    ap (λ b. b || list_any (holds (at + k)) rest) (same k low) ∙ ap (λ b. holds at span || b) (steady k low)

pub next_span : (at most : ℕ) (all : List TimeSpan) (span : TimeSpan) (rest : List TimeSpan) (count less : ℕ)
    → SpansLeft at most all (span ∷ rest) count → 1 ≤ less → less ≤ count → ((k : ℕ) → k < less → holds (at + k) span ≡ holds at span)
    → SpansLeft at most all rest less
next_span at most all span rest count less before some within same = record {
  some = some;
  within = omega (arith, before.within, within);
  all_are =
      λ n low steady. before.all_are n (omega (arith, low, within))
      (one_more at n span rest (λ k small. same k (omega (arith, small, low))) steady);
}

governed_same : (at k : ℕ) (b : Bool) (r : HoursRule) (o : Option HoursRule)
    → list_any (holds (at + k)) (spans_of_times r.times) ≡ list_any (holds at) (spans_of_times r.times)
    → list_any (holds (at + k)) (spans_of o) ≡ list_any (holds at) (spans_of o)
    → list_any (holds (at + k)) (spans_of (option_or o (if b then Some r else None)))
    ≡ list_any (holds at) (spans_of (option_or o (if b then Some r else None)))
governed_same at k b r (Some q) same later = later
governed_same at k true r None same later = same
governed_same at k false r None same later = later

-- one rule more
pub next_rule : (at most : ℕ) (rules : List HoursRule) (i count less : ℕ) → RulesSeen at most rules i count → 1 ≤ less → less ≤ count
    → ((rule : HoursRule) → slice_get rules i ≡ Some rule → AreSteady at less (spans_of_times rule.times)) → RulesSeen at most rules (i + 1) less
next_rule at most rules i count less before some within here = record {
  some = some;
  within = omega (arith, before.within, within);
  seen = λ j low rule is.
      ⊎_elim
      (λ (same : j ≡ i). here rule (ap (slice_get rules) (sym same) ∙ is))
      (λ (other : j ≡ i → ⊥). λ k small. before.seen j (omega (arith, low, other)) rule is k (omega (arith, small, within)))
      (cases_eq j i);
}

-- each rule is steady, so the governing one is
pub each_governs : (at count : ℕ) (rules : List HoursRule)
    → ((j : ℕ) (rule : HoursRule) → slice_get rules j ≡ Some rule → AreSteady at count (spans_of_times rule.times)) → GovernSteadily at count rules
each_governs at count [] each = λ facts k low. refl
each_governs at count (rule ∷ rules) each = λ facts k low.
    governed_same at k (matches facts rule) rule (governing facts rules) (each 0 rule refl k low)
    (each_governs at count rules (λ j other is. each (suc j) other is) facts k low)

pub all_rules : (at most : ℕ) (rules : List HoursRule) (i count : ℕ) → length rules ≤ i → RulesSeen at most rules i count → GovernSteadily at count rules
all_rules at most rules i count all seen =
    each_governs at count rules (λ j rule is.
    (let within = slice_get_within rules j rule is in
    seen.seen j (omega (arith, within, all)) rule is))

seen_next : (minute k count less : ℕ) (rules : List HoursRule) → less ≤ count
    → ((j : ℕ) → j < k → GovernSteadily (minute + 1440 * j) count rules) → GovernSteadily (minute + 1440 * k) less rules
    → (j : ℕ) → j < k + 1 → GovernSteadily (minute + 1440 * j) less rules
seen_next minute k count less rules within seen here j low =
    ⊎_elim
    (λ (same : j ≡ k). subst (λ i. GovernSteadily (minute + 1440 * i) less rules) (sym same) here)
    (λ (other : j ≡ k → ⊥). λ facts n small. seen j (omega (arith, low, other)) facts n (omega (arith, small, within)))
    (cases_eq j k)

pub next_day : (minute most : ℕ) (rules : List HoursRule) (k count less : ℕ) → DaysSeen minute most rules k count → 1 ≤ less → less ≤ count
    → GovernSteadily (minute + 1440 * k) less rules → DaysSeen minute most rules (k + 1) less
next_day minute most rules k count less before some within here = record {
  some = some;
  within = omega (arith, before.within, within);
  seen = seen_next minute k count less rules within before.seen here;
}

same_below : (p q : ℕ → Bool) (n : ℕ) → ((i : ℕ) → i < n → p i ≡ q i) → any_below p n ≡ any_below q n
same_below p q zero same = refl
same_below p q (suc n) same =
    ap (λ b. b || p n) (same_below p q n (λ i low. same i (omega (arith, low)))) ∙ ap (λ b. any_below q n || b) (same n (omega arith))

moved : (minute k j : ℕ) → minute + k + 1440 * j ≡ minute + 1440 * j + k
moved minute k j = omega arith

pub all_days : (minute most : ℕ) (rules : List HoursRule) (days count : ℕ) → 8 ≤ days → DaysSeen minute most rules days count
    → CoverSteadily rules minute count
unfolding is_covered
all_days minute most rules days count all seen holidays day k low =
    same_below (λ j. list_any (holds (minute + k + 1440 * j)) (day_spans rules holidays (day - j)))
    (λ j. list_any (holds (minute + 1440 * j)) (day_spans rules holidays (day - j))) 8
    (λ j small. ap (λ at. list_any (holds at) (day_spans rules holidays (day - j))) (moved minute k j)
    ∙ seen.seen j (omega (arith, small, all)) (facts_of holidays (day - j)) k low)
