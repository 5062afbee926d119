use Rattle.std.proofs.Common.{◌+◌, ◌<◌, ℕ, get_or}
use Rattle.ruled_bounds.specs.Inside.GoodLabels.{HasAsGood, counting_of}
use Rattle.ruled_states.specs.declared.labels.Label.{Label}
use Rattle.ruled_bounds.proofs.label_check.rest_holds.Given as goal

abbrev pub invariant-loop-label : goal.invariant-loop-label
invariant-loop-label g l = (k : ℕ) (d : Label) → k < l.label-index → HasAsGood (g.R.Ruler.ruling l.ruler) l.own
    ((get_or l.own k d).value + (counting_of l.counted).of_rest l.rest l.park.weight) ((g.R.Ruler.ruling l.ruler).rest (get_or l.own k d).need l.rest)
