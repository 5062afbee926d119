use Rattle.std.proofs.Common.{Some}
use Rattle.std.proofs.lemmas.Result.{IfOk-weaker}
use Rattle.potentials.specs.Sums.{AreCappedBoundsTo}
use Rattle.potentials.specs.Inside.Caps.{AreBoundsIn, costs_of}
use Rattle.potentials.proofs.CappedBounds.{capped_bounds}
use Rattle.potentials.proofs.bounds.to_goal_within.Goals as goal

pub returns-clause-bounds : goal.returns-clause-bounds
returns-clause-bounds c =
    let net = c.args.net.now in
    let sums = c.in_ok-sums.sums in
    let found = c.in_ok-sums.ensures in
    IfOk-weaker c.bounds_of.result (AreBoundsIn (Some c.args.most) sums.minutes.items (costs_of sums)) (AreCappedBoundsTo net c.args.goal.0 c.args.most)
    (λ list made. capped_bounds net found.good c.args.goal.0 c.requires.low c.requires.high c.args.most sums found.sums list made) c.bounds_of.ensures
