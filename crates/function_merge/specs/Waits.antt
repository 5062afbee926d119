-- The values of a function with waits (source: SEA 2020, waiting at rated nodes, in whole minutes; minutes without waiting are own).
use Rattle.std.specs.Prelude.{◌≡◌, ℕ, ◌+◌, ◌*◌, ◌-◌, ◌≤◌, ◌<◌, Bool, true, Option, Some, None}
use Rattle.route_base.specs.declared.limits.TheConstants.{HIGHEST_COST}

-- waiting is allowed at each minute from one on and before another
abbrev pub IsAllowed : (ℕ → Bool) → ℕ → ℕ → Type 0
IsAllowed allowed from to = (u : ℕ) → from ≤ u → u < to → allowed u ≡ true

-- the least cost at a minute of a value at it or before and of an allowed wait since then; none where there is no such value
pub record IsLeastWait (values : ℕ → Option ℕ) (allowed : ℕ → Bool) (weight t : ℕ) (o : Option ℕ) : Type 0 where
  pub none : o ≡ None → (s : ℕ) → s ≤ t → IsAllowed allowed s t → values s ≡ None
  pub least : (x : ℕ) → o ≡ Some x → (s v : ℕ) → s ≤ t → IsAllowed allowed s t → values s ≡ Some v → x ≤ v + weight * (t - s)
  pub reached : (x : ℕ) → o ≡ Some x
      → (s : ℕ) × (v : ℕ) × (s ≤ t) × IsAllowed allowed s t × (values s ≡ Some v) × (x ≡ v + weight * (t - s))

-- every least cost with waiting, up to a minute, is in range
abbrev pub CanWait : (ℕ → Option ℕ) → (ℕ → Bool) → ℕ → ℕ → Type 0
CanWait values allowed weight until = (t v : ℕ) → t ≤ until → IsLeastWait values allowed weight t (Some v) → v ≤ HIGHEST_COST

-- the value at each minute, and a wait until then from that minute or from an earlier one that has a value, are in range together
abbrev pub CanWaitAnywhere : (ℕ → Option ℕ) → ℕ → ℕ → Type 0
CanWaitAnywhere values weight until =
    (s t v x : ℕ) → s ≤ t → values s ≡ Some v → values t ≡ Some x → x + weight * (until - s) ≤ HIGHEST_COST
