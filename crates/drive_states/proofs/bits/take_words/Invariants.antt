use Rattle.std.proofs.Common.{ℕ, ◌<◌, ◌^◌, get_or}
use Rattle.drive_states.proofs.BitWords.{AreTaken}
use Rattle.drive_states.proofs.bits.take_words.Given as goal

abbrev pub invariant-loop-i : goal.invariant-loop-i
invariant-loop-i l = record {
  taken : AreTaken l.initial.done.items l.done.items l.row l.fresh.items l.i;
  fits : (k : ℕ) → get_or l.initial.done.items k 0 < 2 ^ 64;
}
