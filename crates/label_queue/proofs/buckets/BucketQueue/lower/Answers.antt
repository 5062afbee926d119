use Rattle.std.proofs.Common.{◌≤◌, length, sym, subst}
use Rattle.std.specs.Option.{IsSomeAnd}
use Rattle.label_queue.specs.Keys.{key_at}
use Rattle.label_queue.specs.Rising.{RisingKeys}
use Rattle.label_queue.proofs.Bucketed.{bucketed_lower}
use Rattle.label_queue.proofs.buckets.BucketQueue.lower.Goals as goal

pub invariant_of-self-2 : goal.invariant_of-self-2
invariant_of-self-2 c =
    let view = sym c.self.view_is in
    bucketed_lower c.self.inside.ring c.add.new.self c.self.inside.keys c.set.new.self c.self.inside.count c.args.v.0 c.args.key c.self.invariant
    c.in_ok-add.ensures.kept c.in_ok-add.ensures.added
    (subst (λ (q : RisingKeys). q.floor ≤ c.args.key) view c.requires.floor) c.requires.low
    (subst (λ (q : RisingKeys). c.args.v.0 ≤ length q.keys) view c.requires.high)
    (subst (λ (q : RisingKeys). IsSomeAnd (key_at q.keys c.args.v.0) (λ before. c.args.key ≤ before)) view c.requires.larger) c.set.ensures
