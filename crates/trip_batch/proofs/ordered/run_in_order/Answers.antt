use Rattle.trip_batch.proofs.Placing.{placed_right}
use Rattle.trip_batch.proofs.ordered.run_in_order.Goals as goal

pub returns : goal.returns
returns g c =
    rw c.from_vec.ensures (placed_right (g.P.PartPlanner.is_right c.args.planner.now) c.args.order.now c.in_ok-texts.texts.items
    c.in_ok-by_job.field-0.items c.requires.all c.in_ok-texts.ensures c.in_ok-by_job.ensures.count c.in_ok-by_job.ensures.placed)
