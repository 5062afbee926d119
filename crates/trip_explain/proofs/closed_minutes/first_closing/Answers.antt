use Rattle.std.proofs.Common.{inl, arith}
use Rattle.trip_explain.proofs.FirstMinutes.{closed_by, open_by}
use Rattle.trip_explain.proofs.closed_minutes.first_closing.Goals as goal

pub returns-in-Some-clause-some : goal.returns-in-Some-clause-some
returns-in-Some-clause-some c =
    let network = c.args.network.now in
    let vehicle = c.args.vehicle.now in
    let closing = c.in-Some.closing in
    let barred = c.in-Some.ensures.some in
    record {
      from_on = barred.from_on;
      before = λ u at under.
          open_by network vehicle c.args.a.0 u (barred.before u at under)
          (c.first_in_closure-closure.ensures.before u at (omega (arith, under, barred.within)));
      closed = closed_by network vehicle c.args.a.0 closing.minute closing.why (inl barred.by);
      by = inl barred.by;
    }
