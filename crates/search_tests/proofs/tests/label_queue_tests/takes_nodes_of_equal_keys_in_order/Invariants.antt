use Rattle.std.proofs.Common.{◌≡◌, length}
use Rattle.search_tests.proofs.tests.label_queue_tests.takes_nodes_of_equal_keys_in_order.Given as goal

abbrev pub invariant-loop-v : goal.invariant-loop-v
invariant-loop-v g l = length l.queue ≡ 40
