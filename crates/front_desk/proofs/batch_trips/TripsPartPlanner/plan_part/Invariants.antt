use Rattle.std.specs.Prelude.{IfSome}
use Rattle.trip_batch.specs.Right.{AreRight}
use Rattle.front_desk.specs.Inside.Sharing.{IsSharedNet, IsTextAtPlace}
use Rattle.front_desk.proofs.batch_trips.TripsPartPlanner.plan_part.Given as goal

abbrev pub invariant-loop-place : goal.invariant-loop-place
invariant-loop-place g l = record {
  shared : IfSome l.shared (IsSharedNet l.self.network.now);
  texts : AreRight (IsTextAtPlace l.self.network.now l.self.jobs.now l.self.order.now) l.from l.place l.texts.items;
}
