use Rattle.drive_states.proofs.BitWords.{masked}
use Rattle.drive_states.proofs.bits.low_bits.Goals as goal

pub returns : goal.returns
returns c = masked c.args.word c.args.count c.requires.some c.requires.few
