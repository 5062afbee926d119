-- Parts: a text is one part at most.
use Rattle.std.proofs.Common.{◌≡◌, ℕ, true, false, List, refl, ap, ◌∙◌}
use Rattle.opening_hours.specs.Hours.{IsHours}
use Rattle.opening_hours.specs.declared.types.HoursRule.{HoursRule}
use Rattle.opening_hours.proofs.Whole.{one_reading}
use Rattle.vehicle_classes.specs.declared.classes.Quantity.{Quantity}
use Rattle.conditional_rules.specs.declared.conditional.Comparison.{Comparison}
use Rattle.conditional_rules.specs.declared.conditional.Part.{Part}
use Rattle.conditional_rules.specs.declared.conditional.Part.TheVariants.{Compare, Times}
use Rattle.conditional_rules.specs.Comparisons.{IsComparison}
use Rattle.conditional_rules.specs.Conditions.{has_sign, is_flag, IsPart}
use Rattle.conditional_rules.specs.Conditions as law
use Rattle.conditional_rules.proofs.ReadComparisons.{one_comparison}

-- a text with a sign that is no comparison is no part
pub no_comparison : (text : List ℕ) → has_sign text ≡ true → ((q : Quantity) (c : Comparison) (v : ℕ) → IsComparison text q c v → ⊥)
    → (part : Part) → IsPart text part → ⊥
no_comparison text sign none part (law.compared {quantity = q} {comparison = c} {value = v} e h) = none q c v h
no_comparison text sign none part (law.flagged e f) = absurd cc
no_comparison text sign none part (law.timed e f h) = absurd cc

-- a text with no sign that is no flag and no hours is no part
pub no_hours : (text : List ℕ) → has_sign text ≡ false → is_flag text ≡ false → ((rules : List HoursRule) → IsHours text rules → ⊥)
    → (part : Part) → IsPart text part → ⊥
no_hours text sign flag none part (law.compared e h) = absurd cc
no_hours text sign flag none part (law.flagged e f) = absurd cc
no_hours text sign flag none part (law.timed {rules = rules} e f h) = none rules h

-- no text is two parts
pub one_part : (text : List ℕ) (a b : Part) → IsPart text a → IsPart text b → a ≡ b
one_part text a b (law.compared {quantity = p} {comparison = s} {value = v} e h) (law.compared {quantity = q} {comparison = t} {value = w} f k) =
    let same = one_comparison text p q s t v w h k in
    ap (λ (x : Quantity). Compare x s v) same.0 ∙ ap (λ (x : Comparison). Compare q x v) same.1 ∙ ap (λ (x : ℕ). Compare q t x) same.2
one_part text a b (law.flagged e f) (law.flagged g h) = refl
one_part text a b (law.timed {rules = rs} e f h) (law.timed {rules = us} g i k) = ap Times (one_reading text us rs k h)
one_part text a b (law.compared e h) (law.flagged f g) = absurd cc
one_part text a b (law.compared e h) (law.timed f g k) = absurd cc
one_part text a b (law.flagged e f) (law.compared g h) = absurd cc
one_part text a b (law.flagged e f) (law.timed g i h) = absurd cc
one_part text a b (law.timed e f h) (law.compared g k) = absurd cc
one_part text a b (law.timed e f h) (law.flagged g i) = absurd cc
