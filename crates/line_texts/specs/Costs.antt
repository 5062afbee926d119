-- Costs as texts (source: own).
use Rattle.std.specs.Prelude.{ℕ, ◌+◌, ◌/◌, ◌%◌, List, [], ◌∷◌, ◌++◌, codes, decimal}

-- the last three digits of a number
abbrev pub three_digits : ℕ → List ℕ
three_digits n = (48 + n / 100 % 10) ∷ (48 + n / 10 % 10) ∷ (48 + n % 10) ∷ []

-- a cost in thousandths as its whole part, a point and three digits
abbrev pub thousandths_of : ℕ → List ℕ
thousandths_of cost = decimal (cost / 1000) ++ codes "." ++ three_digits cost
