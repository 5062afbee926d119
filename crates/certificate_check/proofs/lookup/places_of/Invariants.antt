use Rattle.std.proofs.Common.{◌≤◌}
use Rattle.certificate_check.proofs.lookup.places_of.Given as goal

abbrev pub invariant-loop-k : goal.invariant-loop-k
invariant-loop-k l = l.next ≤ l.k
