-- Sums of numbers, by which a search ends (source: own; no law).
use Rattle.std.specs.Prelude.{ℕ, zero, suc, ◌+◌}

-- the sum of the first n numbers
unfoldable pub total : ℕ → (ℕ → ℕ) → ℕ
total zero f = 0
total (suc n) f = total n f + f n
