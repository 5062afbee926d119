use Rattle.std.proofs.Common.{◌≡◌, ℕ, Some}
use Rattle.std.specs.List.{Contains}
use Rattle.label_queue.specs.Keys.{key_at}
use Rattle.label_queue.proofs.ring.take_counting.Given as goal

abbrev pub invariant-entries : goal.invariant-entries
invariant-entries l = (v : ℕ) → key_at l.keys v ≡ Some l.key → Contains l.fn.bucket.items v → Contains l.bucket.items v

abbrev pub decreases-entries : goal.decreases-entries
decreases-entries l = goal.left-entries l
