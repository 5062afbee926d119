-- Runs of minutes (source: own).
use Rattle.std.specs.Prelude.{◌≡◌, ℕ, ◌+◌, ◌<◌, ◌≤◌, Bool, false, ◌&&◌, nat_le, nat_lt, List, All, AllPairs}
use Rattle.std.specs.List.{list_any}
use Rattle.route_base.specs.declared.types.Run.{Run}

-- the run has the minute
abbrev pub has_minute : ℕ → Run → Bool
has_minute t r = nat_le r.lo t && nat_lt t r.hi

-- some run has the minute
abbrev pub any_has : List Run → ℕ → Bool
any_has runs t = list_any (has_minute t) runs

-- the runs rise, don't touch, and none is empty
pub record AreRuns (runs : List Run) : Type 0 where
  pub filled : All (λ r. r.lo < r.hi) runs
  pub apart : AllPairs (λ r q. r.hi < q.lo) runs

-- no run has one of these minutes
abbrev pub IsFree : List Run → ℕ → ℕ → Type 0
IsFree runs t minutes = (u : ℕ) → t ≤ u → u < t + minutes → any_has runs u ≡ false
