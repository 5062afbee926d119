use Rattle.std.proofs.Common.{◌+◌, ◌≤◌, length}
use Rattle.std.specs.Prelude.{reverse}
use Rattle.route_base.specs.Legs.{steps_of}
use Rattle.tidy_legs.specs.Tidiness.{IsTidy}
use Rattle.itinerary_unpack.specs.Inside.Requests.{setting_in, solved_cost}
use Rattle.itinerary_unpack.specs.Inside.Ways.{LeadsToPair}
use Rattle.itinerary_unpack.proofs.back.legs_back.Given as goal

abbrev pub invariant-back : goal.invariant-back
invariant-back l = record {
  low : 1 ≤ l.node.0;
  high : l.node.0 ≤ l.solved.net.now.nodes;
  size : length (steps_of (reverse l.legs.items)) + l.minute ≤ l.solved.request.until;
  tidy : IsTidy l.legs.items;
  leads : LeadsToPair (setting_in l.solved) l.solved.request (solved_cost l.solved) l.fn.pair l.node.0 l.minute (steps_of (reverse l.legs.items));
}

abbrev pub decreases-back : goal.decreases-back
decreases-back l = l.minute
