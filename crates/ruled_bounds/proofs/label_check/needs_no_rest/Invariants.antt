use Rattle.std.proofs.Common.{◌≡◌, ◌<◌, ℕ, true, get_or}
use Rattle.ruled_bounds.proofs.label_check.needs_no_rest.Given as goal

abbrev pub invariant-loop-rest : goal.invariant-loop-rest
invariant-loop-rest g l = (k d : ℕ) → k < l.rest-index → (g.R.Ruler.ruling l.ruler).no_worse l.label.need
    ((g.R.Ruler.ruling l.ruler).rest l.label.need (get_or l.rest-items k d)) ≡ true
