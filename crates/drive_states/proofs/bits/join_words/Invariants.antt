use Rattle.std.proofs.Common.{◌≡◌, ◌⊎◌, ◌/◌, ◌-◌, ◌<◌, ◌^◌, get_or}
use Rattle.drive_states.proofs.BitWords.{AreJoined}
use Rattle.drive_states.proofs.bits.join_words.Given as goal

abbrev pub invariant-loop-i : goal.invariant-loop-i
invariant-loop-i l = record {
  joined : AreJoined l.row l.initial.row l.from l.by l.most l.i l.fresh;
  before : ((l.i ≡ l.by / 64) × (l.before ≡ 0)) ⊎ ((l.by / 64 < l.i) × (l.before ≡ get_or l.from (l.i - l.by / 64 - 1) 0));
  fits : l.before < 2 ^ 64;
}
