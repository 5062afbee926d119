use Rattle.std.proofs.Common.{◌<◌, ℕ}
use Rattle.std.specs.Prelude.{slice_get}
use Rattle.ruled_states.specs.Inside.Labels.{lists_of}
use Rattle.ruled_bounds.specs.Inside.GoodLabels.{ServesBy, counting_of}
use Rattle.ruled_bounds.proofs.label_check.places_hold.Given as goal

abbrev pub invariant-loop-k : goal.invariant-loop-k
invariant-loop-k g l = (i : ℕ) → i < l.k → ServesBy (g.R.Ruler.ruling l.ground.ruler.now) (counting_of l.counted) (lists_of l.lists) i
    (slice_get (g.R.Ruler.ruling l.ground.ruler.now).services i)
