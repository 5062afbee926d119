use Rattle.std.proofs.Common.{◌≡◌, ◌≤◌, ◌<◌, ℕ, Some, length}
use Rattle.std.specs.Prelude.{slice_get}
use Rattle.label_queue.specs.Keys.{key_at}
use Rattle.label_queue.specs.Rising.{AdmitsFrom}
use Rattle.potentials.specs.Inside.Summing.{HasSum, IsSummed, IsWide, WorksAt, unsettled_at}
use Rattle.potentials.specs.declared.sums.Offer.{Offer}
use Rattle.potentials.proofs.sums.take_offers.Given as goal

abbrev pub invariant-loop-offer : goal.invariant-loop-offer
invariant-loop-offer g l = record {
  nodes : length l.known.items ≡ l.plan.net.now.nodes;
  room : length (g.Q.NodeQueue.keys l.queue) ≡ l.plan.net.now.nodes;
  facts : IsSummed l.plan.net.now l.plan.counted l.plan.goal.0 l.plan.cap l.v.0 l.known.items (g.Q.NodeQueue.keys l.queue);
  work : WorksAt l.plan.net.now l.plan.counted l.v.0 l.x l.known.items (g.Q.NodeQueue.keys l.queue);
  less : unsettled_at l.plan.net.now l.known.items (g.Q.NodeQueue.keys l.queue) ≤ unsettled_at l.plan.net.now l.fn.known.items (g.Q.NodeQueue.keys l.fn.queue);
  taken : (i : ℕ) (offer : Offer) → i < l.offer-index → slice_get l.offers i ≡ Some offer → HasSum (key_at l.known.items) offer.tail.0 offer.sum;
  span : g.Q.NodeQueue.span l.queue ≡ g.Q.NodeQueue.span l.fn.queue;
  wide : IsWide l.plan.net.now l.plan.counted l.plan.cap (g.Q.NodeQueue.span l.queue);
  admits : AdmitsFrom (g.Q.NodeQueue.admits l.queue) l.x (g.Q.NodeQueue.span l.queue);
}
