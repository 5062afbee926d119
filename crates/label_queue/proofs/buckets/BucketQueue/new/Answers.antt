use Rattle.std.proofs.Common.{arith}
use Rattle.label_queue.proofs.Bucketed.{bucketed_new}
use Rattle.label_queue.proofs.Waiting.{none_counted}
use Rattle.label_queue.proofs.buckets.BucketQueue.new.Goals as goal

pub invariant_of-result : goal.invariant_of-result
invariant_of-result c =
    let keys = c.in_ok-new-2.field-0 in
    let none = c.in_ok-new-2.ensures.empty in
    bucketed_new c.in_ok-new.field-0 keys c.args.n (omega (arith, c.in_ok-new.ensures.place, c.in_ok-new.ensures.span, c.requires.some)) none
    c.in_ok-new-2.ensures.room c.ranges.n.fits (none_counted keys none)
