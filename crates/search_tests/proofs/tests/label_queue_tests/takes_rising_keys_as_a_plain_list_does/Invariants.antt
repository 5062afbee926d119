use Rattle.std.proofs.Common.{◌≡◌, length}
use Rattle.search_tests.proofs.tests.label_queue_tests.takes_rising_keys_as_a_plain_list_does.Given as goal

abbrev pub invariant-loop : goal.invariant-loop
invariant-loop g l = record {
  room : length l.queue.keys ≡ 30;
  places : length l.plain.items ≡ 30;
  floor : l.queue.floor ≡ l.floor;
  span : l.queue.span ≡ 20;
}
