use Rattle.std.proofs.Common.{◌≡◌, ◌++◌, map, take}
use Rattle.stop_tour.specs.Inside.Layers.{runs_and_rest}
use Rattle.stop_tour.proofs.layers.push_lists.Given as goal

abbrev pub invariant-loop-list : goal.invariant-loop-list
invariant-loop-list l = map (λ v. v.items) l.out.items
    ≡ map (λ v. v.items) l.initial.out.items ++ map (runs_and_rest l.late l.until) (map (λ v. v.items) (take l.list-index l.lists))
