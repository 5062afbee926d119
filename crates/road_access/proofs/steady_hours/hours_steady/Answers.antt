use Rattle.road_access.proofs.SteadyHours.{all_days}
use Rattle.road_access.proofs.steady_hours.hours_steady.Goals as goal

pub returns-clause-same : goal.returns-clause-same
returns-clause-same c =
    all_days c.args.minute c.args.most c.args.hours.now c.loop-k.k c.loop-k.count c.loop-k-test.false c.loop-k.invariant
