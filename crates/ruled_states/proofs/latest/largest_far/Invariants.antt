use Rattle.std.proofs.Common.{◌<◌, ℕ, get_or}
use Rattle.ruled_states.specs.Inside.Latest.{IsLargeFor}
use Rattle.ruled_states.specs.declared.labels.Label.{Label}
use Rattle.ruled_states.proofs.latest.largest_far.Given as goal

abbrev pub invariant-loop-label : goal.invariant-loop-label
invariant-loop-label g l = (k : ℕ) (d : Label) → k < l.label-index
    → IsLargeFor (g.R.Ruler.ruling l.ruler) l.near l.served l.largest (get_or l.far k d)
