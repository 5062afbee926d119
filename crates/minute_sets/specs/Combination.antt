-- The minutes that a combination of two sets keeps (source: own).
use Rattle.std.specs.Prelude.{◌≡◌, ◌&&◌, ◌||◌, not, ℕ, ◌<◌, ◌≤◌, Bool, false, List, All}
use Rattle.route_base.specs.Runs.{any_has}
use Rattle.route_base.specs.declared.types.Run.{Run}
use Rattle.minute_sets.specs.declared.sweep.Combination.{Combination}
use Rattle.minute_sets.specs.declared.sweep.Combination.TheVariants.{Either, Both, OnlyFirst}

-- a minute is kept or not, by whether it is in the first set and in the second
abbrev pub keeps : Combination → Bool → Bool → Bool
keeps Either a b = a || b
keeps Both a b = a && b
keeps OnlyFirst a b = a && not b

-- before a minute the set has the minutes that are wanted, and from it on none yet
pub record IsSwept (wanted : ℕ → Bool) (set : List Run) (from : ℕ) : Type 0 where
  pub before : (t : ℕ) → t < from → any_has set t ≡ wanted t
  pub after : (t : ℕ) → from ≤ t → any_has set t ≡ false
  pub begins : All (λ r. r.lo ≤ from) set
