use Rattle.std.proofs.Common.{◌<◌, ◌≤◌, ℕ, get_or}
use Rattle.ruled_states.specs.declared.labels.Label.{Label}
use Rattle.ruled_states.proofs.latest.largest_value.Given as goal

abbrev pub invariant-loop-label : goal.invariant-loop-label
invariant-loop-label g l = (k : ℕ) (d : Label) → k < l.label-index → l.served < (g.R.Ruler.ruling l.ruler).stage (get_or l.labels k d).need
    → (get_or l.labels k d).value ≤ l.largest
