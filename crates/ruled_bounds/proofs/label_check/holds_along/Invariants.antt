use Rattle.std.proofs.Common.{◌≡◌, ◌+◌, ◌++◌, ◌<◌, ℕ, Some, get_or}
use Rattle.route_base.specs.Net.{road_of}
use Rattle.ruled_bounds.specs.Inside.GoodLabels.{HasAsGood, counting_of}
use Rattle.ruled_states.specs.declared.labels.Label.{Label}
use Rattle.ruled_bounds.proofs.label_check.holds_along.Given as goal

abbrev pub invariant-loop-label : goal.invariant-loop-label
invariant-loop-label g l = (k : ℕ) (d : Label) → k < l.label-index → (m : ℕ)
    → (g.R.Ruler.ruling l.ruler).drive (get_or l.label-items k d).need l.arc.minutes ≡ Some m
    → HasAsGood (g.R.Ruler.ruling l.ruler) (l.tails ++ l.far) ((get_or l.label-items k d).value + (counting_of l.counted).of_drive (road_of l.arc)) m
