use Rattle.std.proofs.Common.{◌≡◌, length}
use Rattle.function_merge.specs.Least.{least_of}
use Rattle.ruled_states.specs.Inside.Labels.{least_fit}
use Rattle.ruled_states.proofs.labels.least_within.Given as goal

abbrev pub invariant-fits : goal.invariant-fits
invariant-fits g l = least_of l.least (least_fit (g.R.Ruler.ruling l.ruler) l.left l.state) ≡ least_fit (g.R.Ruler.ruling l.ruler) l.labels l.state

abbrev pub decreases-fits : goal.decreases-fits
decreases-fits g l = length l.left
