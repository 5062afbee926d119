-- Numbers that are printed in decimal digits are read as themselves, and numbers of few digits are small.
use Rattle.std.proofs.Common.{◌≡◌, ℕ, zero, suc, ◌+◌, ◌-◌, ◌*◌, ◌/◌, ◌%◌, ◌^◌, ◌<◌, ◌≤◌, ◌&&◌, Some}
use Rattle.std.proofs.Common.{List, [], ◌∷◌, ◌++◌, codes, decimal, length, length-append, append_assoc, refl, sym, ap, ◌∙◌, arith}
use Rattle.std.specs.Prelude.{nat_le}
use Rattle.std.proofs.lemmas.Bool.{leb-true, and_parts}
use Rattle.std.proofs.lemmas.Option.{same_Some}
use Rattle.std.proofs.Math.Nat.{pow-suc, pow-succ', one-le-pow, mul-le-mul_right, mul_assoc}
use Rattle.std.proofs.Math.Arith.{mod-mul}
use Rattle.route_base.specs.Digits.{digits_from, number_of}
use Rattle.route_base.proofs.Logic.{behind_test}
use Rattle.route_base.proofs.DecimalDigits.{digit_behind}
use Rattle.line_texts.specs.Words.{thousandths_of, three_digits}
use Rattle.conditional_rules.specs.CanonicalText.{last_digits, measure_text}

-- the last digits of a number write what is left of it
pub last_digits_write : (k n : ℕ) → digits_from 0 (last_digits k n) ≡ Some (n % 10 ^ k)
last_digits_write zero n = ap (λ m. Some m) (omega arith)
last_digits_write (suc k) n =
    let split : n % 10 ^ suc k ≡ (n / 10 % 10 ^ k) * 10 + n % 10 = ap (λ m. n % m) (pow-suc 10 k) ∙ mod-mul n (one-le-pow k 10 (omega arith)) (omega arith) in
    let value : 10 * (n / 10 % 10 ^ k) + n % 10 ≡ n % 10 ^ suc k = omega (arith, split) in
    digit_behind 0 (n / 10 % 10 ^ k) (n % 10) (last_digits k (n / 10)) (omega arith) (last_digits_write k (n / 10)) ∙ ap (λ m. Some m) value

pub length-last_digits : (k n : ℕ) → length (last_digits k n) ≡ k
length-last_digits zero n = refl
length-last_digits (suc k) n = omega (arith, length-append (last_digits k (n / 10)) ((48 + n % 10) ∷ []), length-last_digits k (n / 10))

-- what digits write is below the power of ten
digits_below : (n k : ℕ) (bs : List ℕ) → digits_from n bs ≡ Some k → k < (n + 1) * 10 ^ length bs
digits_below n k [] h = omega (arith, same_Some n k h)
digits_below n k (b ∷ bs) h =
    let parts = behind_test (nat_le 48 b && nat_le b 57) (digits_from (10 * n + (b - 48)) bs) k h in
    let small = leb-true b 57 (and_parts (nat_le 48 b) (nat_le b 57) parts.0).1 in
    let m = 10 * n + (b - 48) in
    let later = digits_below m k bs parts.1 in
    let more : (m + 1) * 10 ^ length bs ≤ ((n + 1) * 10) * 10 ^ length bs = mul-le-mul_right (10 ^ length bs) (omega (arith, small)) in
    let power : (n + 1) * 10 ^ length (b ∷ bs) ≡ ((n + 1) * 10) * 10 ^ length bs =
    ap (λ p. (n + 1) * p) (pow-succ' 10 (length bs)) ∙ sym (mul_assoc (n + 1) 10 (10 ^ length bs)) in
    omega (arith, later, more, power)

pub number_below : (bs : List ℕ) (n : ℕ) → number_of bs ≡ Some n → n < 10 ^ length bs
number_below [] n h = absurd (cc)
number_below (b ∷ bs) n h =
    let parts = behind_test (nat_le (length (b ∷ bs)) 18) (digits_from 0 (b ∷ bs)) n h in
    omega (arith, digits_below 0 n (b ∷ bs) parts.1)

-- a size of three decimals is printed as a number of thousandths
pub thousandths_are : (n : ℕ) → thousandths_of n ≡ measure_text 3 n
thousandths_are n =
    let hundreds : n / 100 ≡ n / 10 / 10 = omega arith in
    append_assoc (decimal (n / 1000)) (codes ".") (three_digits n)
    ∙ ap (λ h. decimal (n / 1000) ++ 46 ∷ (48 + h % 10) ∷ (48 + n / 10 % 10) ∷ (48 + n % 10) ∷ []) hundreds
