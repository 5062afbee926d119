-- The decimal digits of a number are digits.
use Rattle.std.proofs.Common.{ℕ, ◌+◌, ◌%◌, ◌^◌, ◌<◌, ◌≤◌}
use Rattle.std.proofs.Common.{List, [], ◌∷◌, ◌++◌, arith}
use Rattle.std.specs.Prelude.{All, decimal}
use Rattle.std.proofs.lemmas.Fmt.{decimal_by_steps}
use Rattle.std.proofs.lemmas.List.Elements.{All-nil, All-cons, All-append}

-- the bytes of digits
abbrev pub IsDigit : ℕ → Type 0
IsDigit b = (48 ≤ b) × (b ≤ 57)

one_digit_only : (d : ℕ) → d ≤ 9 → All IsDigit ((48 + d) ∷ [])
one_digit_only d small = All-cons IsDigit (48 + d) [] (omega arith, omega (arith, small)) (All-nil IsDigit)

pub decimal_bytes : (n : ℕ) → n < 2 ^ 64 → All IsDigit (decimal n)
decimal_bytes n small = decimal_by_steps (λ n ds. All IsDigit ds) one more n small
  where
    one : (n : ℕ) → n < 10 → All IsDigit ((48 + n) ∷ [])
    one n h = one_digit_only n (omega (arith, h))

    more : (n : ℕ) (ds : List ℕ) → 10 ≤ n → All IsDigit ds → All IsDigit (ds ++ (48 + n % 10) ∷ [])
    more n ds h front = All-append IsDigit ds ((48 + n % 10) ∷ []) front (one_digit_only (n % 10) (omega arith))
