use Rattle.std.proofs.Common.{◌≡◌, length}
use Rattle.potentials.specs.Inside.Summing.{IsSummed, unsettled_at}
use Rattle.potentials.proofs.sums.sums_below.Given as goal

abbrev pub invariant-turns : goal.invariant-turns
invariant-turns g l = record {
  nodes : length l.known.items ≡ l.net.nodes;
  room : length (g.Q.NodeQueue.keys l.queue) ≡ l.net.nodes;
  facts : IsSummed l.net l.fn.counted l.fn.goal.0 l.fn.cap 0 l.known.items (g.Q.NodeQueue.keys l.queue);
  span : g.Q.NodeQueue.span l.queue ≡ g.Q.NodeQueue.span l.fn.queue;
}

abbrev pub decreases-turns : goal.decreases-turns
decreases-turns g l = unsettled_at l.net l.known.items (g.Q.NodeQueue.keys l.queue)
