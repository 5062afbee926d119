use Rattle.trip_batch.proofs.Joined.{right-append}
use Rattle.trip_batch.proofs.parts.+fn-run_parts-join+arg2+fn-run_parts-join+arg3+run_parts.Goals as goal

pub returns : goal.returns
returns g t c =
    let left = rw c.in_ok-texts.was at c.join-left.ensures.first in
    let right = rw c.in_ok-right.was at c.join-left.ensures.second in
    rw c.in_ok-append.ensures.items (right-append
    (g.P.PartPlanner.is_right c.args.planner.now) c.args.from _ c.args.to c.in_ok-texts.texts.items c.in_ok-right.field-0.items left right)
