-- Decimal digits, as they are printed, are read as the number that they write.
use Rattle.std.proofs.Common.{◌≡◌, ℕ, ◌+◌, ◌-◌, ◌*◌, ◌/◌, ◌%◌, ◌^◌, ◌<◌, ◌≤◌, ◌&&◌, Some}
use Rattle.std.proofs.Common.{List, [], ◌∷◌, ◌++◌, length, refl, ap, ◌∙◌, arith}
use Rattle.std.specs.Prelude.{nat_le, decimal}
use Rattle.std.proofs.lemmas.Bool.{le-leb, leb-true, and_parts}
use Rattle.std.proofs.lemmas.Fmt.{decimal_by_steps, decimal_nonempty, length-decimal-le}
use Rattle.std.proofs.lemmas.Option.{same_Some}
use Rattle.route_base.specs.Digits.{digits_from, number_of}
use Rattle.route_base.proofs.Logic.{behind_test}

-- one digit before others
pub digit_more : (n d : ℕ) (bs : List ℕ) → d ≤ 9 → digits_from n ((48 + d) ∷ bs) ≡ digits_from (10 * n + d) bs
digit_more n d bs small =
    let back : 48 + d - 48 ≡ d = omega arith in
    rw (le-leb 48 (48 + d) (omega arith), le-leb (48 + d) 57 (omega (arith, small)), back) refl

-- the first byte of what is read is a digit
pub digit_back : (n a k : ℕ) (bs : List ℕ) → digits_from n (a ∷ bs) ≡ Some k → (48 ≤ a) × (a ≤ 57) × (digits_from (10 * n + (a - 48)) bs ≡ Some k)
digit_back n a k bs h =
    let behind = behind_test (nat_le 48 a && nat_le a 57) (digits_from (10 * n + (a - 48)) bs) k h in
    let parts = and_parts (nat_le 48 a) (nat_le a 57) behind.0 in
    (leb-true 48 a parts.0, leb-true a 57 parts.1, behind.1)

-- one digit behind others
pub digit_behind : (n k d : ℕ) (bs : List ℕ) → d ≤ 9 → digits_from n bs ≡ Some k → digits_from n (bs ++ (48 + d) ∷ []) ≡ Some (10 * k + d)
digit_behind n k d [] small h = digit_more n d [] small ∙ ap (λ m. Some (10 * m + d)) (same_Some n k h)
digit_behind n k d (b ∷ bs) small h =
    let first = digit_back n b k bs h in
    rw (le-leb 48 b first.0, le-leb b 57 first.1) (digit_behind (10 * n + (b - 48)) k d bs small first.2)

-- the digits of a number write it
pub decimal_digits : (n : ℕ) → n < 2 ^ 64 → digits_from 0 (decimal n) ≡ Some n
decimal_digits n small = decimal_by_steps (λ n ds. digits_from 0 ds ≡ Some n) one more n small
  where
    one : (n : ℕ) → n < 10 → digits_from 0 ((48 + n) ∷ []) ≡ Some n
    one n h = digit_more 0 n [] (omega (arith, h)) ∙ ap (λ m. Some m) (omega arith)

    more : (n : ℕ) (ds : List ℕ) → 10 ≤ n → digits_from 0 ds ≡ Some (n / 10) → digits_from 0 (ds ++ (48 + n % 10) ∷ []) ≡ Some n
    more n ds h front =
        let whole : 10 * (n / 10) + n % 10 ≡ n = omega arith in
        digit_behind 0 (n / 10) (n % 10) ds (omega arith) front ∙ ap (λ m. Some m) whole

-- one to eighteen digits are a number
pub number_from : (bs : List ℕ) (n : ℕ) → 0 < length bs → length bs ≤ 18 → digits_from 0 bs ≡ Some n → number_of bs ≡ Some n
number_from [] n some few h = absurd (omega arith)
number_from (b ∷ bs) n some few h = rw (le-leb (length (b ∷ bs)) 18 few) h

pub number_again : (n : ℕ) → n < 10 ^ 18 → number_of (decimal n) ≡ Some n
number_again n small =
    let fits : n < 2 ^ 64 = omega (arith, small) in
    number_from (decimal n) n (decimal_nonempty n fits) (length-decimal-le 18 n (omega arith) small fits) (decimal_digits n fits)
