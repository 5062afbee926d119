use Rattle.std.proofs.Common.{◌≡◌, ◌<◌, ◌≤◌, ℕ, length}
use Rattle.std.specs.Prelude.{slice_get}
use Rattle.trip_batch.specs.Inside.Placing.{ArePlaced}
use Rattle.trip_batch.proofs.ordered.by_job.Given as goal

abbrev pub invariant-places : goal.invariant-places
invariant-places l = record {
  count : length l.placed.items ≡ length l.order;
  few : length l.left.items ≤ length l.order;
  front : (k : ℕ) → k < length l.left.items → slice_get l.left.items k ≡ slice_get l.fn.texts.items k;
  placed : ArePlaced l.order (length l.left.items) l.fn.texts.items l.placed.items;
}

abbrev pub decreases-places : goal.decreases-places
decreases-places l = goal.left-places l
