use Rattle.std.proofs.Common.{◌-◌, ◌+◌, ℕ, length}
use Rattle.route_base.specs.Net.{Net}
use Rattle.propagation.specs.Inside.EntrySets.{AreEntrySets}
use Rattle.propagation.proofs.entry_sets.make_room.Given as goal

abbrev pub invariant-lists : goal.invariant-lists
invariant-lists l = (net : Net) (until : ℕ) → AreEntrySets net until l.fn.sets → AreEntrySets net until l.sets

abbrev pub decreases-lists : goal.decreases-lists
decreases-lists l = l.list + 1 - length l.sets.lists.items
