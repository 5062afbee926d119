use Rattle.std.proofs.Common.{◌≡◌, None, subst, arith}
use Rattle.label_queue.specs.Keys.{key_at, IsOneOfLeastTaken}
use Rattle.label_queue.specs.Rising.{RisingKeys}
use Rattle.label_queue.proofs.Bucketed.{bucketed_taken, least_taken}
use Rattle.label_queue.proofs.Places.{key_within}
use Rattle.label_queue.proofs.Waiting.{none_waits}
use Rattle.label_queue.proofs.buckets.BucketQueue.take_least.Goals as goal

pub returns-then-self-eq0-clause-none : goal.returns-then-self-eq0-clause-none
returns-then-self-eq0-clause-none c none v =
    subst (λ (q : RisingKeys). key_at q.keys v ≡ None) c.self.view_is
    (none_waits c.self.inside.keys (omega (arith, c.self.invariant.count, c.if-self-eq0.true)) v)

pub clear-requires-clause-low : goal.clear-requires-clause-low
clear-requires-clause-low c = (key_within c.self.inside.keys c.take_lowest.result c.take_lowest.new.self.floor c.take_lowest.ensures.was).0

pub clear-requires-clause-high : goal.clear-requires-clause-high
clear-requires-clause-high c = (key_within c.self.inside.keys c.take_lowest.result c.take_lowest.new.self.floor c.take_lowest.ensures.was).1

pub invariant_of-self : goal.invariant_of-self
invariant_of-self c = bucketed_taken c.self.inside.ring c.take_lowest.new.self c.self.inside.keys c.clear.new.self c.self.inside.count
    c.take_lowest.result c.self.invariant c.take_lowest.ensures c.clear.ensures

pub returns-clause-some : goal.returns-clause-some
returns-clause-some c =
    subst (λ (q : RisingKeys). IsOneOfLeastTaken q.keys c.clear.new.self c.take_lowest.result c.take_lowest.new.self.floor) c.self.view_is
    (least_taken c.self.inside.ring c.take_lowest.new.self c.self.inside.keys c.clear.new.self c.take_lowest.result c.take_lowest.ensures c.clear.ensures)
