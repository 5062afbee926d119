use Rattle.std.proofs.Common.{◌≡◌, map, take}
use Rattle.front_transport.proofs.closed_lists.copied_lists.Given as goal

abbrev pub invariant-loop-list : goal.invariant-loop-list
invariant-loop-list l = map (λ v. v.items) l.out.items ≡ map (λ v. v.items) (take l.list-index l.lists)
