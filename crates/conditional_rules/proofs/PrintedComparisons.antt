-- A comparison that is printed is read as itself.
use Rattle.std.proofs.Common.{◌≡◌, inl, ℕ, zero, suc, ◌+◌, ◌-◌, ◌*◌, ◌/◌, ◌%◌, ◌^◌, ◌<◌, ◌≤◌, List, [], ◌++◌, length}
use Rattle.std.proofs.Common.{Some, refl, sym, ap, ◌∙◌, subst, arith}
use Rattle.std.specs.Prelude.{decimal}
use Rattle.std.proofs.lemmas.Fmt.{decimal_nonempty, length-decimal-le}
use Rattle.std.proofs.lemmas.List.{append-nil}
use Rattle.std.proofs.lemmas.Nat.{div-add-mod', div_below, mul-add-lt, pow-add}
use Rattle.std.proofs.Math.Nat.{one-le-pow, pow-le-pow_right}
use Rattle.route_base.specs.Digits.{number_of}
use Rattle.route_base.proofs.DecimalDigits.{decimal_digits, number_from}
use Rattle.vehicle_classes.specs.declared.classes.Quantity.{Quantity}
use Rattle.vehicle_classes.specs.declared.classes.Quantity.TheVariants.{Weight, Axleload, Height, Width, Length, Axles}
use Rattle.conditional_rules.specs.declared.conditional.Comparison.{Comparison}
use Rattle.conditional_rules.specs.declared.conditional.Comparison.TheVariants.{Below, AtMost, Above, AtLeast, Equal}
use Rattle.conditional_rules.specs.declared.conditional.Part.TheVariants.{Compare}
use Rattle.conditional_rules.specs.Comparisons.{quantity_text, decimals_in, IsSign, IsMeasure, IsComparison}
use Rattle.conditional_rules.specs.Comparisons as forms
use Rattle.conditional_rules.specs.CanonicalText.{sign_text, last_digits, measure_text, part_text}
use Rattle.conditional_rules.proofs.PrintedNumbers.{last_digits_write, length-last_digits, number_below}

-- a number of six digits at most is below a million
six_digits : (digits : List ℕ) (n : ℕ) → length digits ≤ 6 → number_of digits ≡ Some n → n < 1000000
six_digits digits n few h =
    let power : 10 ^ length digits ≤ 10 ^ 6 = pow-le-pow_right (omega arith) few in
    omega (arith, number_below digits n h, power)

-- the decimals of a value are below one
decimals_below : (decimals k d : ℕ) → k ≤ decimals → d < 10 ^ k → d * 10 ^ (decimals - k) < 10 ^ decimals
decimals_below decimals k d few small =
    let split : decimals - k + k ≡ decimals = omega (arith, few) in
    let power : 10 ^ (decimals - k) * 10 ^ k ≡ 10 ^ decimals = sym (pow-add 10 (decimals - k) k) ∙ ap (λ m. 10 ^ m) split in
    omega (arith, power, mul-add-lt d (10 ^ (decimals - k)) 0 (10 ^ k) small (one-le-pow (decimals - k) 10 (omega arith)))

-- a value has six digits at most before its decimals
pub measure_below : (decimals : ℕ) (text : List ℕ) (v : ℕ) → IsMeasure decimals text v → v < 1000000 * 10 ^ decimals
measure_below decimals text v (forms.whole digits {n = n} few h) =
    omega (arith, mul-add-lt n (10 ^ decimals) 0 1000000 (six_digits digits n few h) (one-le-pow decimals 10 (omega arith)))
measure_below decimals text v (forms.decimal digits behind {n = n} {d = d} few h less more) =
    let part = d * 10 ^ (decimals - length behind) in
    let small : part < 10 ^ decimals = decimals_below decimals (length behind) d less (number_below behind d more) in
    omega (arith, mul-add-lt n (10 ^ decimals) part 1000000 (six_digits digits n few h) small)

-- a number below a million is read from its digits, which are six at most
six_again : (n : ℕ) → n < 1000000 → (length (decimal n) ≤ 6) × (number_of (decimal n) ≡ Some n)
six_again n small =
    let few : length (decimal n) ≤ 6 = length-decimal-le 6 n (omega arith) (omega (arith, small)) (omega (arith, small)) in
    let some = decimal_nonempty n (omega (arith, small)) in
    (few, number_from (decimal n) n some (omega (arith, few)) (decimal_digits n (omega (arith, small))))

-- the last digits of a number are read as what is left of it
last_again : (k n : ℕ) → suc k ≤ 18 → number_of (last_digits (suc k) n) ≡ Some (n % 10 ^ suc k)
last_again k n few =
    let long = length-last_digits (suc k) n in
    number_from (last_digits (suc k) n) (n % 10 ^ suc k) (omega (arith, long)) (omega (arith, long, few)) (last_digits_write (suc k) n)

-- a value with all its decimals
pub measure_again : (decimals v : ℕ) → decimals ≤ 18 → v < 1000000 * 10 ^ decimals → IsMeasure decimals (measure_text decimals v) v
measure_again zero v short small =
    let again = six_again (v / 1) (omega (arith, small)) in
    subst (λ text. IsMeasure 0 text v) (sym (append-nil (decimal (v / 1))))
    (subst (IsMeasure 0 (decimal (v / 1))) (omega arith) (forms.whole (decimal (v / 1)) again.0 again.1))
measure_again (suc k) v short small =
    let one = 10 ^ suc k in
    let again = six_again (v / one) (div_below v one 1000000 (one-le-pow (suc k) 10 (omega arith)) small) in
    let long = length-last_digits (suc k) v in
    let none : suc k - suc k ≡ 0 = omega arith in
    let value : v / one * one + v % one * 10 ^ (suc k - length (last_digits (suc k) v)) ≡ v =
    rw (long, none) (omega (arith, div-add-mod' v one)) in
    subst (IsMeasure (suc k) (measure_text (suc k) v)) value
    (forms.decimal (decimal (v / one)) (last_digits (suc k) v) again.0 again.1 (omega (arith, long)) (last_again k v short))

sign_again : (c : Comparison) → IsSign (sign_text c) c
sign_again Below = forms.below
sign_again AtMost = forms.at_most
sign_again Above = forms.above
sign_again AtLeast = forms.at_least
sign_again Equal = forms.equal

few_decimals : (q : Quantity) → decimals_in q ≤ 18
few_decimals Weight = omega arith
few_decimals Axleload = omega arith
few_decimals Height = omega arith
few_decimals Width = omega arith
few_decimals Length = omega arith
few_decimals Axles = omega arith

-- the value of a comparison is below a million with its decimals
pub value_below : (text : List ℕ) (q : Quantity) (c : Comparison) (v : ℕ) → IsComparison text q c v → v < 1000000 * 10 ^ decimals_in q
value_below text q c v (forms.comparison a b d unit {measure = measure} ha sign hb is hd end) = measure_below (decimals_in q) measure v is

-- what is before its decimals is below a million
pub whole_below : (text : List ℕ) (q : Quantity) (c : Comparison) (v : ℕ) → IsComparison text q c v → v / 10 ^ decimals_in q < 1000000
whole_below text q c v h =
    div_below v (10 ^ decimals_in q) 1000000 (one-le-pow (decimals_in q) 10 (omega arith)) (value_below text q c v h)

-- the canonical text of a comparison is a comparison with the same size, sign and value
pub comparison_again : (text : List ℕ) (q : Quantity) (c : Comparison) (v : ℕ) → IsComparison text q c v
    → IsComparison (part_text (Compare q c v)) q c v
comparison_again text q c v h =
    let is = measure_again (decimals_in q) v (few_decimals q) (value_below text q c v h) in
    let ended : List ℕ → Type 0 = λ end. IsComparison (quantity_text q ++ (sign_text c ++ end)) q c v in
    subst ended (append-nil (measure_text (decimals_in q) v))
    (forms.comparison [] [] [] [] refl (sign_again c) refl is refl (inl refl))
