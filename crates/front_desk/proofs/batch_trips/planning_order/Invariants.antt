use Rattle.std.proofs.Common.{◌≡◌, map, take, length}
use Rattle.front_desk.specs.Inside.Sharing.{HasEachJob}
use Rattle.front_desk.proofs.batch_trips.planning_order.Given as goal

abbrev pub invariant-loop-number : goal.invariant-loop-number
invariant-loop-number l = HasEachJob l.number (map (λ key. key.2) l.keys.items)

abbrev pub invariant-loop-key : goal.invariant-loop-key
invariant-loop-key l = record {
  keys : HasEachJob (length l.jobs) (map (λ key. key.2) l.key-items);
  numbers : l.order.items ≡ map (λ key. key.2) (take l.key-index l.key-items);
}
