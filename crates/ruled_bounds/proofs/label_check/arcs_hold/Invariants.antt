use Rattle.std.proofs.Common.{◌≤◌, ℕ}
use Rattle.route_base.specs.Net.{setting_of}
use Rattle.ruled_states.specs.Inside.Labels.{lists_of}
use Rattle.ruled_bounds.specs.Inside.GoodLabels.{HoldsBy, counting_of}
use Rattle.ruled_bounds.proofs.label_check.arcs_hold.Given as goal

abbrev pub invariant-loop-k : goal.invariant-loop-k
invariant-loop-k g l = (a : ℕ) → 1 ≤ a → a ≤ l.k → HoldsBy (g.R.Ruler.ruling l.ground.ruler.now) (counting_of l.counted) (lists_of l.lists)
    ((setting_of l.ground.net.now).road a)
