use Rattle.std.proofs.Common.{◌≤◌, arith, rules}
use Rattle.route_base.specs.declared.types.Pair.{Pair}
use Rattle.certificate_check.proofs.Lawful.{trade_more}
use Rattle.certificate_check.proofs.PieceValues.{one_more}
use Rattle.certificate_check.proofs.pairs.are_ordered.Goals as goal
use Rattle.certificate_check.proofs.pairs.are_ordered.Goals.{else-i-gt0-via-then-i-gt0+else-not-trades, else-i-gt0-via-else-i-gt0}

none : Pair
none = record { arrival = 0; cost = 0 }

pub loop-i-preserved : goal.loop-i-preserved
unfolding none
loop-i-preserved c =
    let pairs = c.args.pairs.now in
    let inv = c.loop-i.invariant in
    record {
      trade = λ j k d before upto within. elim c.else-i-gt0.branch [
        | else-i-gt0-via-then-i-gt0+else-not-trades w ↦ trade_more pairs c.loop-i.i none inv.trade (omega (arith, w.if-i-gt0.true))
            (omega (arith, c.loop-i-test.true)) (w.if-not-trades.ensures.0 (search rules)) j k d before upto within
        | else-i-gt0-via-else-i-gt0 w ↦ absurd (omega (arith, w.if-i-gt0.false, before, upto))
      ];
      in_time = one_more (λ (p : Pair). p.arrival ≤ c.args.until) pairs c.loop-i.i none inv.in_time (omega (arith, c.if-until-pairs.false));
    }
