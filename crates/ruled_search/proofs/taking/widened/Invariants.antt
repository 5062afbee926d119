use Rattle.std.proofs.Common.{◌≡◌, ◌≤◌, ◌<◌, ℕ, None, length}
use Rattle.label_queue.specs.Keys.{key_at}
use Rattle.ruled_search.proofs.taking.widened.Given as goal

abbrev pub invariant-loop-k : goal.invariant-loop-k
invariant-loop-k l = record {
  room : length l.wide ≡ l.room;
  done : (n : ℕ) → n ≤ l.k → key_at l.wide n ≡ key_at l.queue n;
  rest : (n : ℕ) → l.k < n → key_at l.wide n ≡ None;
}
