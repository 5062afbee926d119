use Rattle.std.proofs.Common.{arith}
use Rattle.drive_states.proofs.BitWords.{is_trimmed}
use Rattle.drive_states.proofs.bits.trimmed.Goals as goal

pub returns-clause-part : goal.returns-clause-part
returns-clause-part c =
    is_trimmed c.args.row.now c.min-first.result c.last_word-end.result c.last_word-end.ensures.low c.last_word-end.ensures.within
    (λ k low. c.first_word.ensures.none k (omega (arith, low, c.min-first.ensures))) c.last_word-end.ensures.none
