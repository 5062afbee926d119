use Rattle.std.proofs.Common.{◌≡◌, length}
use Rattle.trip_batch.proofs.ordered.no_texts.Given as goal

abbrev pub invariant-loop : goal.invariant-loop
invariant-loop l = length l.texts.items ≡ l.counter
