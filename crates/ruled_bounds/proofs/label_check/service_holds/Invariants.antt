use Rattle.std.proofs.Common.{◌≡◌, ◌+◌, ◌++◌, ◌<◌, ℕ, Some, get_or}
use Rattle.ruled_bounds.specs.Inside.GoodLabels.{HasAsGood, counting_of}
use Rattle.ruled_states.specs.Inside.Services.{service_at}
use Rattle.ruled_states.specs.declared.labels.Label.{Label}
use Rattle.ruled_bounds.proofs.label_check.service_holds.Given as goal

abbrev pub invariant-loop-label : goal.invariant-loop-label
invariant-loop-label g l = (k : ℕ) (d : Label) → k < l.label-index → (m : ℕ)
    → (g.R.Ruler.ruling l.ruler).unserve (get_or l.labels k d).need l.place ≡ Some m
    → HasAsGood (g.R.Ruler.ruling l.ruler) (l.own ++ l.far) ((get_or l.labels k d).value + (counting_of l.counted).of_service (service_at l.service)) m
