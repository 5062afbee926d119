use Rattle.std.proofs.Common.{◌≡◌, suc, Some, length}
use Rattle.std.specs.Prelude.{slice_get}
use Rattle.ruled_states.specs.Inside.Labels.{label_bound, lists_of}
use Rattle.ruled_states.specs.Inside.Latest.{AreInTime}
use Rattle.ruled_states.proofs.latest.latest_by_left.Given as goal

abbrev pub invariant-loop-left : goal.invariant-loop-left
invariant-loop-left g l = record {
  count : length l.minutes.items ≡ suc l.left;
  last : slice_get l.minutes.items l.left ≡ Some l.latest;
  in_time : AreInTime (g.R.Ruler.ruling l.ruler) l.until
      (label_bound (g.R.Ruler.ruling l.ruler) (lists_of l.labels.minutes.items) (lists_of l.labels.costs.items)) l.minutes.items;
}
