use Rattle.std.proofs.Common.{◌<◌, ◌≤◌, ℕ, length, get_or}
use Rattle.route_base.specs.Front.{Trades}
use Rattle.route_base.specs.declared.types.Pair.{Pair}
use Rattle.certificate_check.proofs.pairs.are_ordered.Given as goal

abbrev pub invariant-loop-i : goal.invariant-loop-i
invariant-loop-i l = record {
  trade : (j k : ℕ) (d : Pair) → j < k → k < l.i → k < length l.pairs → Trades (get_or l.pairs j d) (get_or l.pairs k d);
  in_time : (k : ℕ) (d : Pair) → k < l.i → k < length l.pairs → (get_or l.pairs k d).arrival ≤ l.until;
}
