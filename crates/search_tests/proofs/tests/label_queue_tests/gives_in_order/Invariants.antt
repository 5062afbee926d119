use Rattle.std.proofs.Common.{◌≡◌, length}
use Rattle.search_tests.proofs.tests.label_queue_tests.gives_in_order.Given as goal

abbrev pub invariant-loop-v : goal.invariant-loop-v
invariant-loop-v l = length l.queue ≡ length l.fn.queue
