use Rattle.std.proofs.Common.{◌≡◌, map, take}
use Rattle.latest_departure.specs.Inside.Mirror.{mirrored_runs}
use Rattle.latest_departure.proofs.mirror.mirrored_lists.Given as goal

abbrev pub invariant-loop-list : goal.invariant-loop-list
invariant-loop-list l = map (λ v. v.items) l.out.items ≡ map (mirrored_runs l.sum) (map (λ v. v.items) (take l.list-index l.lists))
