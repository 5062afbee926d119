use Rattle.std.proofs.Common.{arith}
use Rattle.propagation.proofs.EntryLists.{room_more}
use Rattle.propagation.proofs.entry_sets.make_room.Goals as goal

pub lists-preserved : goal.lists-preserved
lists-preserved c net until was =
    room_more net until c.lists.sets (record { lists = c.push.new.self }) c.new.result c.new.ensures.items c.in_ok-push.ensures.items
    (c.lists.invariant net until was)

pub lists-smaller : goal.lists-smaller
lists-smaller c = omega (arith, c.in_ok-push.ensures.len, c.push.new.self.ok.0, c.lists.sets.lists.ok.0, c.lists-test.true)
