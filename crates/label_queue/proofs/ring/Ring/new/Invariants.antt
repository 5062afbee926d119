use Rattle.std.proofs.Common.{◌≡◌, length}
use Rattle.label_queue.proofs.ring.Ring.new.Given as goal

abbrev pub invariant-loop : goal.invariant-loop
invariant-loop l = length l.buckets.items ≡ l.counter
