use Rattle.std.proofs.Common.{inl, inr, ⊎_elim, arith, refl}
use Rattle.drive_states.proofs.marks.mark.Goals as goal

pub returns-in_ok-push : goal.returns-in_ok-push
returns-in_ok-push c = record {
  fresh = c.in_ok-fresh.fresh;
  takes = c.in_ok-fresh.ensures.took;
  others = c.in_ok-fresh.ensures.others;
  done = refl;
  count = omega (arith, c.from.ensures);
  queued = c.push.ensures.kept;
  pushed = λ some. c.in_ok-push.ensures.has;
  only = λ u one. ⊎_elim (λ was. inl was) (λ is. inr (is, c.if-fresh-gt0.true)) (c.push.ensures.only u one);
  short = omega (arith, c.push.ensures.short, c.if-fresh-gt0.true);
}
