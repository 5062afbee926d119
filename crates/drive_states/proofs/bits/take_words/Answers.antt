use Rattle.drive_states.proofs.BitWords.{taken_all}
use Rattle.drive_states.proofs.bits.take_words.Goals as goal

pub returns : goal.returns
returns c = taken_all c.args.done.now.items c.loop-i.done.items c.args.row.now c.loop-i.fresh.items c.loop-i.i c.loop-i-test.false c.loop-i.invariant.fits
    c.loop-i.invariant.taken
