-- Holidays as lists of day numbers (source: own).
use Rattle.std.specs.Prelude.{ℕ, ◌==◌, Bool, List}
use Rattle.std.specs.List.{list_any}

-- the days that are public holidays, and those that are school holidays
pub record HolidayLists : Type 0 where
  pub public : List ℕ
  pub school : List ℕ

-- a day is on a list
abbrev pub is_listed : ℕ → List ℕ → Bool
is_listed day days = list_any (λ d. d == day) days
