use Rattle.std.proofs.Common.{◌<◌, ℕ, get_or}
use Rattle.ruled_bounds.specs.Inside.GoodLabels.{NeedsNoRest}
use Rattle.ruled_states.specs.declared.labels.Label.{Label}
use Rattle.ruled_bounds.proofs.label_check.need_no_rest.Given as goal

abbrev pub invariant-loop-label : goal.invariant-loop-label
invariant-loop-label g l = (k : ℕ) (d : Label) → k < l.label-index → NeedsNoRest (g.R.Ruler.ruling l.ruler) (get_or l.labels k d)
