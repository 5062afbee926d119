use Rattle.std.proofs.Common.{map, take}
use Rattle.ban_expansion.specs.Inside.ShutLists.{AreShutLists}
use Rattle.ban_expansion.proofs.shut_lists.shut_lists.Given as goal

abbrev pub invariant-loop-k : goal.invariant-loop-k
invariant-loop-k l = AreShutLists l.network l.fn.window (take l.k l.parks.timetables) (map (λ v. v.items) l.lists.items)
