-- Numbers as decimal digits (source: own).
use Rattle.std.specs.Prelude.{ℕ, ◌+◌, ◌-◌, ◌*◌, ◌==◌, ◌&&◌, Bool, true, not, nat_le, Option, Some, None, List, [], ◌∷◌, length, if◌then◌else◌}

-- the number that the digits so far and these further digits write
abbrev pub digits_from : ℕ → List ℕ → Option ℕ
digits_from n [] = Some n
digits_from n (b ∷ bs) = if nat_le 48 b && nat_le b 57 then digits_from (10 * n + (b - 48)) bs else None

-- the number of 1 to 18 digits, leading zeros allowed
abbrev pub number_of : List ℕ → Option ℕ
number_of [] = None
number_of (b ∷ bs) = if nat_le (length (b ∷ bs)) 18 then digits_from 0 (b ∷ bs) else None

-- whether there is no leading zero, other than in 0 itself
abbrev pub has_no_leading_zero : List ℕ → Bool
has_no_leading_zero [] = true
has_no_leading_zero (b ∷ []) = true
has_no_leading_zero (b ∷ c ∷ bs) = not (b == 48)

-- the number of 1 to 18 digits without a leading zero, 0 itself allowed
abbrev pub plain_number_of : List ℕ → Option ℕ
plain_number_of token = if has_no_leading_zero token then number_of token else None
