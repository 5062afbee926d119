-- The bytes of a comparison that is printed.
use Rattle.std.proofs.Common.{◌≡◌, ℕ, zero, suc, ◌+◌, ◌-◌, ◌*◌, ◌/◌, ◌%◌, ◌^◌, ◌<◌, ◌&&◌, ◌||◌, Bool, true, false, Some}
use Rattle.std.proofs.Common.{List, [], ◌∷◌, ◌++◌, length, refl, sym, ap, ◌∙◌, arith}
use Rattle.std.specs.Prelude.{◌==◌, nat_le, decimal}
use Rattle.std.specs.List.{list_all, list_any}
use Rattle.std.proofs.lemmas.Bool.{and_from, or_from, or_left, or_right, ne_eqb, both_ways}
use Rattle.std.proofs.lemmas.List.Folds.{list_all-append, list_any-append}
use Rattle.route_base.specs.Digits.{digits_from}
use Rattle.route_base.specs.Forms.{is_blank}
use Rattle.route_base.proofs.Logic.{behind_test}
use Rattle.route_base.proofs.DecimalDigits.{decimal_digits}
use Rattle.vehicle_classes.specs.declared.classes.Quantity.{Quantity}
use Rattle.vehicle_classes.specs.declared.classes.Quantity.TheVariants.{Weight, Axleload, Height, Width, Length, Axles}
use Rattle.conditional_rules.specs.declared.conditional.Comparison.{Comparison}
use Rattle.conditional_rules.specs.declared.conditional.Comparison.TheVariants.{Below, AtMost, Above, AtLeast, Equal}
use Rattle.conditional_rules.specs.declared.conditional.Part.TheVariants.{Compare}
use Rattle.conditional_rules.specs.Comparisons.{quantity_text, decimals_in, IsComparison}
use Rattle.conditional_rules.specs.Conditions.{is_small_letter, has_sign, has_parenthesis, has_at}
use Rattle.conditional_rules.specs.CanonicalText.{sign_text, last_digits, decimals_text, measure_text, part_text}
use Rattle.conditional_rules.proofs.PrintedNumbers.{last_digits_write}
use Rattle.conditional_rules.proofs.PrintedComparisons.{whole_below}
use Rattle.conditional_rules.proofs.Tight.{none_of}

-- a small letter, a digit, a point or a byte of a sign
abbrev pub is_comparison_byte : ℕ → Bool
is_comparison_byte b = is_small_letter b || ((nat_le 48 b && nat_le b 57) || (b == 46 || (b == 60 || (b == 61 || b == 62))))

abbrev AreBytes : List ℕ → Type 0
AreBytes bs = list_all is_comparison_byte bs ≡ true

digit_byte : (b : ℕ) → (nat_le 48 b && nat_le b 57) ≡ true → is_comparison_byte b ≡ true
digit_byte b h =
    or_right (is_small_letter b) ((nat_le 48 b && nat_le b 57) || (b == 46 || (b == 60 || (b == 61 || b == 62))))
    (or_left (nat_le 48 b && nat_le b 57) (b == 46 || (b == 60 || (b == 61 || b == 62))) h)

digit_bytes : (n k : ℕ) (bs : List ℕ) → digits_from n bs ≡ Some k → AreBytes bs
digit_bytes n k [] h = refl
digit_bytes n k (b ∷ bs) h =
    let parts = behind_test (nat_le 48 b && nat_le b 57) (digits_from (10 * n + (b - 48)) bs) k h in
    and_from (is_comparison_byte b) (list_all is_comparison_byte bs) (digit_byte b parts.0) (digit_bytes (10 * n + (b - 48)) k bs parts.1)

both_bytes : (xs ys : List ℕ) → AreBytes xs → AreBytes ys → AreBytes (xs ++ ys)
both_bytes xs ys hx hy =
    list_all-append is_comparison_byte xs ys ∙ and_from (list_all is_comparison_byte xs) (list_all is_comparison_byte ys) hx hy

quantity_bytes : (q : Quantity) → AreBytes (quantity_text q)
quantity_bytes Weight = refl
quantity_bytes Axleload = refl
quantity_bytes Height = refl
quantity_bytes Width = refl
quantity_bytes Length = refl
quantity_bytes Axles = refl

sign_bytes : (c : Comparison) → AreBytes (sign_text c)
sign_bytes Below = refl
sign_bytes AtMost = refl
sign_bytes Above = refl
sign_bytes AtLeast = refl
sign_bytes Equal = refl

decimals_bytes : (decimals v : ℕ) → AreBytes (decimals_text decimals v)
decimals_bytes zero v = refl
decimals_bytes (suc k) v = digit_bytes 0 (v % 10 ^ suc k) (last_digits (suc k) v) (last_digits_write (suc k) v)

-- each byte of a comparison that is printed is one of these
pub comparison_bytes : (text : List ℕ) (q : Quantity) (c : Comparison) (v : ℕ) → IsComparison text q c v
    → list_all is_comparison_byte (part_text (Compare q c v)) ≡ true
comparison_bytes text q c v h =
    let whole = v / 10 ^ decimals_in q in
    let small = whole_below text q c v h in
    let digits = digit_bytes 0 whole (decimal whole) (decimal_digits whole (omega (arith, small))) in
    both_bytes (quantity_text q) (sign_text c ++ measure_text (decimals_in q) v) (quantity_bytes q)
    (both_bytes (sign_text c) (measure_text (decimals_in q) v) (sign_bytes c)
    (both_bytes (decimal whole) (decimals_text (decimals_in q) v) digits (decimals_bytes (decimals_in q) v)))

-- no such byte is another one
pub no_other : (other b : ℕ) → is_comparison_byte other ≡ false → is_comparison_byte b ≡ true → (b == other) ≡ false
no_other other b outside h = ne_eqb b other (λ e. both_ways (is_comparison_byte other) outside (ap is_comparison_byte (sym e) ∙ h))

pub comparison_no_parenthesis : (text : List ℕ) (q : Quantity) (c : Comparison) (v : ℕ) → IsComparison text q c v
    → has_parenthesis (part_text (Compare q c v)) ≡ false
comparison_no_parenthesis text q c v h =
    none_of is_comparison_byte (λ b. b == 40 || b == 41) (λ b is. or_from (b == 40) (b == 41) (no_other 40 b refl is) (no_other 41 b refl is))
    (part_text (Compare q c v)) (comparison_bytes text q c v h)

pub comparison_no_semicolon : (text : List ℕ) (q : Quantity) (c : Comparison) (v : ℕ) → IsComparison text q c v
    → list_any (λ b. b == 59) (part_text (Compare q c v)) ≡ false
comparison_no_semicolon text q c v h =
    none_of is_comparison_byte (λ b. b == 59) (λ b is. no_other 59 b refl is) (part_text (Compare q c v)) (comparison_bytes text q c v h)

pub comparison_no_at : (text : List ℕ) (q : Quantity) (c : Comparison) (v : ℕ) → IsComparison text q c v
    → has_at (part_text (Compare q c v)) ≡ false
comparison_no_at text q c v h =
    none_of is_comparison_byte (λ b. b == 64) (λ b is. no_other 64 b refl is) (part_text (Compare q c v)) (comparison_bytes text q c v h)

pub comparison_no_blank : (text : List ℕ) (q : Quantity) (c : Comparison) (v : ℕ) → IsComparison text q c v
    → list_any is_blank (part_text (Compare q c v)) ≡ false
comparison_no_blank text q c v h =
    none_of is_comparison_byte is_blank (λ b is. or_from (b == 32) (b == 9) (no_other 32 b refl is) (no_other 9 b refl is))
    (part_text (Compare q c v)) (comparison_bytes text q c v h)

sign_in : (c : Comparison) → has_sign (sign_text c) ≡ true
sign_in Below = refl
sign_in AtMost = refl
sign_in Above = refl
sign_in AtLeast = refl
sign_in Equal = refl

-- a comparison that is printed has a sign, whatever its value
pub comparison_has_sign : (q : Quantity) (c : Comparison) (v : ℕ) → has_sign (part_text (Compare q c v)) ≡ true
comparison_has_sign q c v =
    let is_sign : ℕ → Bool = λ b. b == 60 || (b == 61 || b == 62) in
    let behind = measure_text (decimals_in q) v in
    list_any-append is_sign (quantity_text q) (sign_text c ++ behind)
    ∙ or_right (list_any is_sign (quantity_text q)) (list_any is_sign (sign_text c ++ behind))
    (list_any-append is_sign (sign_text c) behind ∙ or_left (list_any is_sign (sign_text c)) (list_any is_sign behind) (sign_in c))

-- it isn't empty
pub comparison_filled : (q : Quantity) (c : Comparison) (v : ℕ) → 0 < length (part_text (Compare q c v))
comparison_filled Weight c v = omega arith
comparison_filled Axleload c v = omega arith
comparison_filled Height c v = omega arith
comparison_filled Width c v = omega arith
comparison_filled Length c v = omega arith
comparison_filled Axles c v = omega arith
