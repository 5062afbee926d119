use Rattle.std.proofs.Common.{◌≡◌, ◌+◌, ◌≤◌, ◌<◌, None, length, sym, subst, arith}
use Rattle.label_queue.specs.Keys.{key_at}
use Rattle.label_queue.specs.Rising.{RisingKeys}
use Rattle.label_queue.proofs.Bucketed.{bucketed_put, count_small}
use Rattle.label_queue.proofs.buckets.BucketQueue.put.Goals as goal

pub overflow_add-self : goal.overflow_add-self
overflow_add-self c = omega (arith, count_small c.self.inside.ring c.self.inside.keys c.self.inside.count c.self.invariant)

pub invariant_of-self-2 : goal.invariant_of-self-2
invariant_of-self-2 c =
    let view = sym c.self.view_is in
    bucketed_put c.self.inside.ring c.add.new.self c.self.inside.keys c.set.new.self c.self.inside.count c.args.v.0 c.args.key c.self.invariant
    c.in_ok-add.ensures.kept c.in_ok-add.ensures.added
    (subst (λ (q : RisingKeys). (q.floor ≤ c.args.key) × (c.args.key < q.floor + q.span)) view (c.requires.floor, c.requires.span))
    c.requires.real c.requires.low (subst (λ (q : RisingKeys). c.args.v.0 ≤ length q.keys) view c.requires.high)
    (subst (λ (q : RisingKeys). key_at q.keys c.args.v.0 ≡ None) view c.requires.new) c.set.ensures
