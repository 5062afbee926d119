use Rattle.drive_states.proofs.BitWords.{fresh_since}
use Rattle.drive_states.proofs.bits.take_fresh.Goals as goal

pub returns : goal.returns
returns c = fresh_since c.args.done.now.items _ _ c.args.row.now _ c.reach.ensures.same c.take_words.ensures
