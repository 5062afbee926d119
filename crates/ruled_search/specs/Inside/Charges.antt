-- Costs to which each minute that is left until a last one adds a price, so that minutes can be compared (source: own; no law).
use Rattle.std.specs.Prelude.{◌≡◌, ℕ, ◌+◌, ◌*◌, ◌-◌, ◌≤◌, Option, Some}

abbrev pub charged : ℕ → ℕ → ℕ → ℕ → ℕ
charged price until t x = x + price * (until - t)

-- there is a value, which isn't more when charged
pub record IsChargedWithin (price until : ℕ) (cost : ℕ → Option ℕ) (most u : ℕ) : Type 0 where
  pub value : ℕ
  pub is : cost u ≡ Some value
  pub within : charged price until u value ≤ most
