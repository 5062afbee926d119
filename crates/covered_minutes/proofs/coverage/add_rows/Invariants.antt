use Rattle.std.proofs.Common.{◌≡◌, ◌≤◌, ◌<◌, ◌&&◌, ℕ, max, length, All, AllPairs, IsTrue}
use Rattle.route_base.specs.Runs.{has_minute}
use Rattle.zone_rules.specs.Zones.{row_at, is_offset}
use Rattle.covered_minutes.specs.Coverage.{covered_at}
use Rattle.covered_minutes.specs.LocalDays.{Adds}
use Rattle.covered_minutes.proofs.coverage.add_rows.Given as goal

abbrev pub invariant-rows : goal.invariant-rows
invariant-rows l = record {
  begun : l.window.lo ≤ l.from;
  upto : l.from ≤ max l.window.lo l.window.hi;
  ended : length l.left ≡ 0 → l.window.hi ≤ l.from;
  rising : AllPairs (λ p q. p.start < q.start) l.left;
  offsets : All (λ r. IsTrue (is_offset r.offset)) l.left;
  same : (t : ℕ) → l.from ≤ t → t < l.window.hi → row_at l.left t ≡ row_at l.rows t;
  minutes : Adds l.fn.runs.items l.runs.items (λ t.
      has_minute t (record { lo = l.window.lo; hi = l.from }) && covered_at l.hours l.holidays l.rows t);
}

abbrev pub decreases-rows : goal.decreases-rows
decreases-rows l = length l.left
