use Rattle.std.proofs.Common.{◌≤◌, ℕ}
use Rattle.route_base.specs.Net.{setting_of}
use Rattle.ruled_states.specs.Inside.Reduced.{reduced_in, sums_of}
use Rattle.ruled_bounds.specs.Inside.Reducing.{HoldsInto}
use Rattle.ruled_bounds.proofs.stop_sums.nodes_hold.Given as goal

abbrev pub invariant-loop-k : goal.invariant-loop-k
invariant-loop-k g l = (v : ℕ) → 1 ≤ v → v ≤ l.k
    → HoldsInto (setting_of l.ground.net.now) l.ground.incoming.now l.sums.price (reduced_in (sums_of l.sums.sums.items)) l.stage v
