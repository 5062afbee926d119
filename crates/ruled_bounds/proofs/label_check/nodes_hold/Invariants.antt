use Rattle.std.proofs.Common.{◌≤◌, ℕ}
use Rattle.route_base.specs.Net.{setting_of}
use Rattle.ruled_states.specs.Inside.Labels.{labels_at, lists_of}
use Rattle.ruled_bounds.specs.Inside.GoodLabels.{RestsHold, counting_of}
use Rattle.ruled_bounds.proofs.label_check.nodes_hold.Given as goal

abbrev pub invariant-loop-k : goal.invariant-loop-k
invariant-loop-k g l = (v : ℕ) → 1 ≤ v → v ≤ l.k → RestsHold (g.R.Ruler.ruling l.ground.ruler.now) (counting_of l.counted) (labels_at (lists_of l.lists) v)
    ((setting_of l.ground.net.now).weight v)
