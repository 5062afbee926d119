use Rattle.std.proofs.Common.{None}
use Rattle.std.proofs.lemmas.Result.{IfOk-weaker}
use Rattle.potentials.specs.Sums.{AreBoundsTo}
use Rattle.potentials.specs.Inside.Caps.{AreBoundsIn, costs_of}
use Rattle.potentials.proofs.LeastBounds.{least_bounds}
use Rattle.potentials.proofs.bounds.to_goal_over.Goals as goal

pub returns-clause-bounds : goal.returns-clause-bounds
returns-clause-bounds c =
    let net = c.args.net.now in
    let sums = c.in_ok-sums.sums in
    let found = c.in_ok-sums.ensures in
    IfOk-weaker c.bounds_of.result (AreBoundsIn None sums.minutes.items (costs_of sums)) (AreBoundsTo net c.args.goal.0)
    (λ list made. least_bounds net c.args.goal.0 sums found.sums list made) c.bounds_of.ensures
