use Rattle.std.proofs.Common.{◌≤◌}
use Rattle.route_base.specs.Time.{last_instant}
use Rattle.front_desk.proofs.batch_trips.Trips.window_from.Given as goal

abbrev pub invariant-loop-next : goal.invariant-loop-next
invariant-loop-next l = record {
  to : l.trip.until ≤ l.hi;
  instant : l.hi ≤ last_instant;
}
