use Rattle.std.proofs.Common.{◌≡◌, ◌≤◌, drop, length}
use Rattle.latest_departure.specs.Inside.Mirror.{mirrored_runs}
use Rattle.latest_departure.proofs.mirror.mirrored_list.Given as goal

abbrev pub invariant-loop-left : goal.invariant-loop-left
invariant-loop-left l = record {
  within : l.left ≤ length l.runs;
  made : l.out.items ≡ mirrored_runs l.sum (drop l.left l.runs);
}

abbrev pub decreases-loop-left : goal.decreases-loop-left
decreases-loop-left l = l.left
