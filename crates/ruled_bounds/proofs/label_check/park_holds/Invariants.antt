use Rattle.std.proofs.Common.{◌<◌, ℕ, get_or}
use Rattle.ruled_bounds.specs.Inside.GoodLabels.{HoldsAt, counting_of}
use Rattle.ruled_bounds.proofs.label_check.park_holds.Given as goal

abbrev pub invariant-loop-rest : goal.invariant-loop-rest
invariant-loop-rest g l = (k d : ℕ) → k < l.rest-index
    → HoldsAt (g.R.Ruler.ruling l.ruler) (counting_of l.counted) l.own l.park.weight (get_or l.rest-items k d)
