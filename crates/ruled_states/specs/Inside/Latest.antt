-- The latest minutes for bounds to the goal, by the number of services that are left (source: own; no law).
use Rattle.std.specs.Prelude.{◌≡◌, ◌⊎◌, ℕ, suc, ◌+◌, ◌-◌, ◌≤◌, ◌<◌, Some, Option, List, Contains, length, slice_get, unwrap_or}
use Rattle.route_base.specs.declared.types.Bound.{Bound}
use Rattle.state_dominance.specs.Inside.Product.{Ruler, Service}
use Rattle.ruled_states.specs.declared.labels.Label.{Label}

-- the minute of a state: that at the number of services that are left, and the last one where there is none
abbrev pub latest_by : Ruler → List ℕ → ℕ → ℕ → ℕ
latest_by r minutes until k = unwrap_or (slice_get minutes (length r.services - r.stage k)) until

-- no label whose need has more than `served` services has a larger value
abbrev pub IsLargest : Ruler → List Label → ℕ → ℕ → Type 0
IsLargest r labels served value = (l : Label) → Contains labels l → served < r.stage l.need → l.value ≤ value

-- some label has this need
pub record HasNeed (labels : List Label) (need : ℕ) : Type 0 where
  pub label : Label
  pub is_one : Contains labels label
  pub same : label.need ≡ need

-- the value is no less than that of the label, if its need has more than `served` services, or some label near has its need
abbrev pub IsLargeFor : Ruler → List Label → ℕ → ℕ → Label → Type 0
IsLargeFor r near served value l = served < r.stage l.need → (l.value ≤ value) ⊎ HasNeed near l.need

-- the same for each label that counts for every node
abbrev pub IsLargestFar : Ruler → List Label → List Label → ℕ → ℕ → Type 0
IsLargestFar r near far served value = (l : Label) → Contains far l → IsLargeFor r near served value l

-- before the service at a place the minute is that behind it, or it leaves time for the service's whole window
abbrev pub IsInTime : Ruler → (ℕ → ℕ → Option Bound) → ℕ → ℕ → ℕ → Type 0
IsInTime r bound i after before = (next : ℕ) (c : Service) (h : Bound) → slice_get r.services i ≡ Some c → r.stage next ≡ suc i → bound c.node next ≡ Some h
    → (after ≤ before) ⊎ (c.to + h.minutes ≤ before)

-- from the last minute on, one for each service that is left, the last service first
pub record AreInTime (r : Ruler) (until : ℕ) (bound : ℕ → ℕ → Option Bound) (minutes : List ℕ) : Type 0 where
  pub first : slice_get minutes 0 ≡ Some until
  pub low : (j x : ℕ) → slice_get minutes j ≡ Some x → x ≤ until
  pub steps : (j after before : ℕ) → slice_get minutes j ≡ Some after → slice_get minutes (suc j) ≡ Some before
      → IsInTime r bound (length r.services - suc j) after before
