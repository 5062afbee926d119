use Rattle.ban_expansion.specs.Inside.ShutLists.{AreParks}
use Rattle.ban_expansion.proofs.shut_lists.parks_at.Given as goal

abbrev pub invariant-loop-v : goal.invariant-loop-v
invariant-loop-v l = AreParks l.parks l.fn.first l.v l.held.items
