use Rattle.std.proofs.Common.{◌≡◌, ◌+◌, ◌++◌, length}
use Rattle.std.specs.Vec.Iter.{into_iter_items, into_iter_len}
use Rattle.plan_certificate.specs.Inside.Entries.{pieces_of}
use Rattle.plan_certificate.proofs.Choosing.{AreChosen}
use Rattle.plan_certificate.proofs.functions.known_functions.Given as goal

abbrev pub invariant-loop-function : goal.invariant-loop-function
invariant-loop-function l = record {
  can : (goal.iterator-loop-function).can_next l.function-iterator;
  finite : (goal.iterator-loop-function).is_finite l.function-iterator;
  count : length l.yielded ≡ l.node;
  left : l.node + into_iter_len l.function-iterator ≡ length l.fn.functions.items;
  whole : l.yielded ++ into_iter_items l.function-iterator ≡ l.fn.functions.items;
  chosen : AreChosen (pieces_of l.fn.functions.items) l.node l.known;
}
