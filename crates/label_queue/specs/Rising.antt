-- Keys that rise: none is below a floor, which never falls (source: Dial 1969).
use Rattle.std.specs.Prelude.{ℕ, ◌+◌, ◌-◌, ◌^◌, ◌≤◌, ◌<◌, Option, List}

-- the keys of nodes, with a place for each node from 1 on; they are from the floor to the floor + span - 1
pub record RisingKeys : Type 0 where
  pub keys : List (Option ℕ)
  pub floor : ℕ
  pub span : ℕ

-- each key from this one on that is greater by less than the span, but for the last number
abbrev pub AdmitsFrom : (ℕ → Type 0) → ℕ → ℕ → Type 0
AdmitsFrom admits key span = (other : ℕ) → key ≤ other → other < key + span → other < 2 ^ 64 - 1 → admits other
