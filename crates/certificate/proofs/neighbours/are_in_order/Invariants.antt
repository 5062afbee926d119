use Rattle.std.proofs.Common.{◌≡◌, length}
use Rattle.certificate.specs.Inside.Reading.{neighbours_pass}
use Rattle.certificate.proofs.neighbours.are_in_order.Given as goal

abbrev pub invariant-neighbours : goal.invariant-neighbours
invariant-neighbours g l = neighbours_pass g.T.Follow.test l.items ≡ neighbours_pass g.T.Follow.test l.left

abbrev pub decreases-neighbours : goal.decreases-neighbours
decreases-neighbours g l = length l.left
