use Rattle.std.proofs.Common.{map, take}
use Rattle.ban_expansion.specs.Inside.AreaBans.{AreBarred}
use Rattle.ban_expansion.specs.Inside.GroupedNets.{AreClosedLists}
use Rattle.ban_expansion.proofs.closed_lists.closed_lists.Given as goal

abbrev pub invariant-loop-first : goal.invariant-loop-first
invariant-loop-first l = record {
  lists : AreClosedLists l.network l.vehicle l.fn.window (take l.first-index l.firsts) (map (λ v. v.items) l.lists.items);
  known : AreBarred l.network l.vehicle l.fn.window l.bans.sets.items;
}
