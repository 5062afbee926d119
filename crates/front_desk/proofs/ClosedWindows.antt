-- Runs whose minutes lie in a window of instants begin and end at instants.
use Rattle.std.proofs.Common.{◌≡◌, ℕ, ◌-◌, ◌<◌, true, List, [], ◌∷◌, All, arith}
use Rattle.std.proofs.lemmas.Bool.{le-leb, lt-ltb, and_from, or_left, or_right}
use Rattle.std.proofs.lemmas.List.Elements.{All-nil, All-cons, All-head, All-tail}
use Rattle.route_base.proofs.FirstRuns.{minute_within}
use Rattle.route_base.specs.Runs.{has_minute, any_has}
use Rattle.route_base.specs.Time.{IsInstant}
use Rattle.route_base.specs.declared.types.Run.{Run}

-- the run begins and ends at instants
abbrev pub IsTimedRun : Run → Type 0
IsTimedRun r = IsInstant r.lo × IsInstant r.hi

module _ (window : Run) (from : IsInstant window.lo) (to : IsInstant window.hi) where
  one_timed : (r : Run) → r.lo < r.hi → ((t : ℕ) → has_minute t r ≡ true → has_minute t window ≡ true) → IsTimedRun r
  one_timed r filled inside =
      let first = minute_within r.lo window (inside r.lo (and_from _ _ (le-leb r.lo r.lo (omega arith)) (lt-ltb r.lo r.hi filled))) in
      let last = minute_within (r.hi - 1) window
      (inside (r.hi - 1) (and_from _ _ (le-leb r.lo (r.hi - 1) (omega (arith, filled))) (lt-ltb (r.hi - 1) r.hi (omega (arith, filled))))) in
      ((omega (arith, first.0, from.0), omega (arith, first.1, to.1)), (omega (arith, filled, first.0, from.0), omega (arith, last.1, filled, to.1)))

  pub all_timed : (runs : List Run) → All (λ r. r.lo < r.hi) runs → ((t : ℕ) → any_has runs t ≡ true → has_minute t window ≡ true)
      → All IsTimedRun runs
  all_timed [] filled inside = All-nil IsTimedRun
  all_timed (r ∷ rs) filled inside =
      All-cons IsTimedRun r rs
      (one_timed r (All-head (λ q. q.lo < q.hi) r rs filled) (λ t is. inside t (or_left (has_minute t r) (any_has rs t) is)))
      (all_timed rs (All-tail (λ q. q.lo < q.hi) r rs filled) (λ t is. inside t (or_right (has_minute t r) (any_has rs t) is)))
