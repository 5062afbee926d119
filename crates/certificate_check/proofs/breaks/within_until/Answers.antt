use Rattle.std.proofs.Common.{◌-◌, arith}
use Rattle.cost_functions.specs.Lines.{line_at}
use Rattle.cost_functions.proofs.Slopes.{further}
use Rattle.certificate_check.proofs.breaks.within_until.Goals as goal

pub returns-clause-within : goal.returns-clause-within
returns-clause-within c = λ s from before.
    let piece = c.in_ok-piece.piece in
    let e = c.in_ok-piece.ensures in
    let held = c.held_for-held.ensures in
    let lo = e.from in
    let rise = held.held (s - c.args.t) (omega (arith, from, before)) in
    let on = further piece.cost piece.slope piece.lo c.args.t s lo from in
    record {
      least = line_at piece s;
      is = e.values s (omega (arith, lo, from)) (omega (arith, from, before, held.most, e.upto));
      within = omega (arith, on, rise, c.value-here.ensures, c.if-cost-here.false);
    }
