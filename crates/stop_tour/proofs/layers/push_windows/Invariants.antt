use Rattle.std.proofs.Common.{◌≡◌, ◌++◌, map, take}
use Rattle.stop_tour.specs.Inside.Layers.{outside}
use Rattle.stop_tour.proofs.layers.push_windows.Given as goal

abbrev pub invariant-loop-stop : goal.invariant-loop-stop
invariant-loop-stop l = map (λ v. v.items) l.lists.items ≡ map (λ v. v.items) l.initial.lists.items ++ map (outside l.until) (take l.stop-index l.stops)
