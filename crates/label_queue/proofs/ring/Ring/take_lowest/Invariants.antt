use Rattle.std.proofs.Common.{◌≡◌, ◌-◌}
use Rattle.label_queue.specs.Inside.Rings.{first_key, span_of, HoldsKeys}
use Rattle.label_queue.proofs.ring.Ring.take_lowest.Given as goal

abbrev pub invariant-floors : goal.invariant-floors
invariant-floors l = record {
  holds : HoldsKeys l.self l.keys;
  span : span_of l.self ≡ span_of l.fn.self;
}

abbrev pub decreases-floors : goal.decreases-floors
decreases-floors l = first_key l.keys - l.self.floor
