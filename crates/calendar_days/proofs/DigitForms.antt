-- Numbers of two and of four digits, and their texts.
use Rattle.std.proofs.Common.{◌≡◌, ℕ, ◌+◌, ◌-◌, ◌*◌, ◌/◌, ◌%◌, ◌≤◌, ◌&&◌, Bool, true, false, cond, Option, Some, None, List}
use Rattle.std.proofs.Common.{[], ◌∷◌, ◌++◌, length, refl, ap, ◌∙◌, arith}
use Rattle.std.specs.Prelude.{nat_le}
use Rattle.std.proofs.lemmas.Option.{same_Some}
use Rattle.route_base.specs.Digits.{digits_from, number_of, has_no_leading_zero, plain_number_of}
use Rattle.route_base.proofs.DecimalDigits.{digit_more, digit_back}
use Rattle.calendar_days.specs.Texts.{two_digits}

pub cond_none : {A : Type 0} (b : Bool) (o : Option A) → o ≡ None → cond b o None ≡ None
cond_none true o e = e
cond_none false o e = refl

pub two_digits-number : (n : ℕ) → n ≤ 99 → number_of (two_digits n) ≡ Some n
two_digits-number n small =
    digit_more 0 (n / 10 % 10) ((48 + n % 10) ∷ []) (omega arith)
    ∙ digit_more (10 * 0 + n / 10 % 10) (n % 10) [] (omega arith)
    ∙ ap (λ k. Some k) (omega (arith, small))

digits_of_four : (a b c d : ℕ) → a ≤ 9 → b ≤ 9 → c ≤ 9 → d ≤ 9
    → digits_from 0 ((48 + a) ∷ (48 + b) ∷ (48 + c) ∷ (48 + d) ∷ []) ≡ Some (1000 * a + (100 * b + (10 * c + d)))
digits_of_four a b c d ha hb hc hd =
    let x = 10 * 0 + a in
    let y = 10 * x + b in
    let z = 10 * y + c in
    let value : 10 * z + d ≡ 1000 * a + (100 * b + (10 * c + d)) = omega arith in
    digit_more 0 a ((48 + b) ∷ (48 + c) ∷ (48 + d) ∷ []) ha
    ∙ digit_more x b ((48 + c) ∷ (48 + d) ∷ []) hb
    ∙ digit_more y c ((48 + d) ∷ []) hc
    ∙ digit_more z d [] hd
    ∙ ap (λ k. Some k) value

pub four_digits-number : (n : ℕ) → n ≤ 9999 → number_of (two_digits (n / 100) ++ two_digits n) ≡ Some n
four_digits-number n small =
    let value : 1000 * (n / 100 / 10 % 10) + (100 * (n / 100 % 10) + (10 * (n / 10 % 10) + n % 10)) ≡ n = omega (arith, small) in
    digits_of_four (n / 100 / 10 % 10) (n / 100 % 10) (n / 10 % 10) (n % 10) (omega arith) (omega arith) (omega arith)
    (omega arith) ∙ ap (λ k. Some k) value

pub two_digits-only : (a b n : ℕ) → number_of (a ∷ b ∷ []) ≡ Some n → (n ≤ 99) × (a ≡ 48 + n / 10 % 10) × (b ≡ 48 + n % 10)
two_digits-only a b n e =
    let x = digit_back 0 a n (b ∷ []) e in
    let y = digit_back _ b n [] x.2 in
    let k = same_Some _ n y.2 in
    (omega (arith, x.0, x.1, y.0, y.1, k), omega (arith, x.0, x.1, y.0, y.1, k), omega (arith, x.0, x.1, y.0, y.1, k))

pub four_digits-only : (a b c d n : ℕ) → number_of (a ∷ b ∷ c ∷ d ∷ []) ≡ Some n → (n ≤ 9999) × (a ≡ 48 + n / 100 / 10 % 10)
    × (b ≡ 48 + n / 100 % 10) × (c ≡ 48 + n / 10 % 10) × (d ≡ 48 + n % 10)
four_digits-only a b c d n e =
    let x = digit_back 0 a n (b ∷ c ∷ d ∷ []) e in
    let y = digit_back _ b n (c ∷ d ∷ []) x.2 in
    let z = digit_back _ c n (d ∷ []) y.2 in
    let w = digit_back _ d n [] z.2 in
    let k = same_Some _ n w.2 in (
      omega (arith, x.0, x.1, y.0, y.1, z.0, z.1, w.0, w.1, k),
      omega (arith, x.0, x.1, y.0, y.1, z.0, z.1, w.0, w.1, k),
      omega (arith, x.0, x.1, y.0, y.1, z.0, z.1, w.0, w.1, k),
      omega (arith, x.0, x.1, y.0, y.1, z.0, z.1, w.0, w.1, k),
      omega (arith, x.0, x.1, y.0, y.1, z.0, z.1, w.0, w.1, k),
    )

-- a text with a dash behind its year is no number
pub dashed_no_number : (a b c d : ℕ) (bs : List ℕ) → plain_number_of (a ∷ b ∷ c ∷ d ∷ 45 ∷ bs) ≡ None
dashed_no_number a b c d bs =
    let none : digits_from 0 (a ∷ b ∷ c ∷ d ∷ 45 ∷ bs) ≡ None =
    passed 0 a (b ∷ c ∷ d ∷ 45 ∷ bs) (λ n. passed n b (c ∷ d ∷ 45 ∷ bs) (λ n. passed n c (d ∷ 45 ∷ bs) (λ n. passed n d (45 ∷ bs) (λ n. refl)))) in
    cond_none (has_no_leading_zero (a ∷ b ∷ c ∷ d ∷ 45 ∷ bs)) (number_of (a ∷ b ∷ c ∷ d ∷ 45 ∷ bs))
    (cond_none (nat_le (length (a ∷ b ∷ c ∷ d ∷ 45 ∷ bs)) 18) (digits_from 0 (a ∷ b ∷ c ∷ d ∷ 45 ∷ bs)) none)
  where
    passed : (n a : ℕ) (bs : List ℕ) → ((m : ℕ) → digits_from m bs ≡ None) → digits_from n (a ∷ bs) ≡ None
    passed n a bs h = cond_none (nat_le 48 a && nat_le a 57) (digits_from (10 * n + (a - 48)) bs) (h (10 * n + (a - 48)))
