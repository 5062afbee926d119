use Rattle.std.proofs.Common.{◌-◌, arith}
use Rattle.function_merge.proofs.Lowest.{stays_below}
use Rattle.function_merge.proofs.lower_envelope.part_below.Goals as goal

pub returns-clause-below : goal.returns-clause-below
returns-clause-below c = λ t from upto.
    let r = c.requires in
    let rise = c.held_for-held.ensures.held (t - c.args.lo) (omega (arith, c.part.ensures.hi, upto)) in
    stays_below c.args.piece c.args.other c.args.lo t (c.value.result - c.value-2.result - c.args.more) c.args.more
    (omega (arith, r.from)) (omega (arith, r.from)) from
    (omega (arith, r.below, c.value.ensures, c.value-2.ensures)) rise
