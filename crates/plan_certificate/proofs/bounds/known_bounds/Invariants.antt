use Rattle.potentials.specs.Sums.{bound_at}
use Rattle.plan_certificate.proofs.Choosing.{AreChosen}
use Rattle.plan_certificate.proofs.bounds.known_bounds.Given as goal

abbrev pub invariant-loop-v : goal.invariant-loop-v
invariant-loop-v l = AreChosen (bound_at l.bounds) l.v l.known
