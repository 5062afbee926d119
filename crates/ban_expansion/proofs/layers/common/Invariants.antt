use Rattle.std.proofs.Common.{◌≡◌, ◌&&◌, ℕ, length}
use Rattle.route_base.specs.Runs.{any_has, has_minute, AreRuns}
use Rattle.ban_expansion.specs.Layers.{all_have}
use Rattle.ban_expansion.proofs.layers.common.Given as goal

abbrev pub invariant-sets : goal.invariant-sets
invariant-sets l = record {
  runs : AreRuns l.common;
  minutes : (t : ℕ) → (any_has l.common t && all_have l.left t) ≡ (has_minute t l.fn.window && all_have l.sets t);
}

abbrev pub decreases-sets : goal.decreases-sets
decreases-sets l = length l.left
