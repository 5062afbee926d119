use Rattle.std.proofs.Common.{◌≡◌, ℕ, unwrap_or, length}
use Rattle.route_base.specs.Runs.{any_has, AreRuns}
use Rattle.conditional_rules.specs.Decisions.{last_given}
use Rattle.ban_expansion.specs.Layers.{layer_at, is_barred}
use Rattle.ban_expansion.proofs.layers.closed_by.Given as goal

abbrev pub invariant-layers : goal.invariant-layers
invariant-layers l = record {
  runs : AreRuns l.closed;
  minutes : (t : ℕ) → unwrap_or (last_given (layer_at t) l.left) (any_has l.closed t) ≡ is_barred l.layers t;
}

abbrev pub decreases-layers : goal.decreases-layers
decreases-layers l = length l.left
