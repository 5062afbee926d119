use Rattle.std.proofs.Common.{◌≡◌, ◌<◌, ◌+◌, ℕ, length}
use Rattle.label_queue.specs.Keys.{key_at}
use Rattle.potentials.specs.Sums.{bound_at}
use Rattle.potentials.specs.Inside.Caps.{bound_in, costs_of}
use Rattle.potentials.proofs.bounds.bounds_of.Given as goal

abbrev pub invariant-loop-place : goal.invariant-loop-place
invariant-loop-place l = record {
  long : length l.bounds ≡ l.place;
  each : (k : ℕ) → k < l.place → bound_at l.bounds (k + 1) ≡ bound_in l.caps (key_at l.sums.minutes.items (k + 1)) (key_at (costs_of l.sums) (k + 1));
}
