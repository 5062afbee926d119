use Rattle.std.proofs.Common.{◌≡◌, length}
use Rattle.route_base.specs.Front.{pairs_of}
use Rattle.search_tests.proofs.pairs.have_same_pairs.Given as goal

abbrev pub invariant-pairs : goal.invariant-pairs
invariant-pairs l =
    (pairs_of l.left ≡ pairs_of l.right → pairs_of l.first ≡ pairs_of l.second)
    × (pairs_of l.first ≡ pairs_of l.second → pairs_of l.left ≡ pairs_of l.right)

abbrev pub decreases-pairs : goal.decreases-pairs
decreases-pairs l = length l.left
