use Rattle.std.proofs.Common.{◌≡◌, ℕ, ◌≤◌, get_or, length}
use Rattle.drive_states.proofs.bits.last_word.Given as goal

abbrev pub invariant-words : goal.invariant-words
invariant-words l = record {
  low : l.first ≤ l.end;
  within : l.end ≤ length l.row;
  none : (k : ℕ) → l.end ≤ k → get_or l.row k 0 ≡ 0;
}

abbrev pub decreases-words : goal.decreases-words
decreases-words l = l.end
