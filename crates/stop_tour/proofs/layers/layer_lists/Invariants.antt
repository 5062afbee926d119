use Rattle.std.proofs.Common.{◌≡◌, ◌≤◌, zero, map, drop, length}
use Rattle.stop_tour.specs.Inside.Layers.{last_minute, layered_lists}
use Rattle.stop_tour.proofs.layers.layer_lists.Given as goal

abbrev pub invariant-loop-left : goal.invariant-loop-left
invariant-loop-left l = record {
  within : l.left ≤ length l.stops;
  late : l.late ≡ last_minute l.until (drop l.left l.stops) zero;
  made : map (λ v. v.items) l.out.items ≡ layered_lists l.until (map (λ v. v.items) l.lists) (drop l.left l.stops);
}

abbrev pub decreases-loop-left : goal.decreases-loop-left
decreases-loop-left l = l.left
