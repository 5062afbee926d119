use Rattle.std.proofs.Common.{◌+◌, sym, subst}
use Rattle.trip_batch.specs.Right.{AreRight}
use Rattle.trip_batch.proofs.Joined.{right-push}
use Rattle.front_desk.specs.Inside.Sharing.{IsTextAtPlace}
use Rattle.front_desk.proofs.batch_trips.TripsPartPlanner.plan_part.Goals as goal

pub loop-place-preserved : goal.loop-place-preserved
loop-place-preserved g c =
    let trips = c.args.self.now in
    let R = IsTextAtPlace trips.network.now trips.jobs.now trips.order.now in
    record {
      shared = c.in_ok-text_at.ensures.shared;
      texts = subst (AreRight R c.args.from (c.loop-place.place + 1)) (sym c.in_ok-push.ensures.items)
          (right-push R c.args.from c.loop-place.place c.loop-place.texts.items c.in_ok-text_at.field-0 c.loop-place.invariant.texts
          c.in_ok-text_at.ensures.text);
    }
