use Rattle.std.proofs.Common.{◌≤◌, ◌<◌, ℕ}
use Rattle.std.specs.Prelude.{slice_get}
use Rattle.route_base.specs.Net.{setting_of}
use Rattle.ruled_states.specs.Inside.Reduced.{reduced_in, sums_of}
use Rattle.ruled_bounds.specs.Inside.Reducing.{EndsBy, HoldsInto}
use Rattle.ruled_bounds.proofs.stop_sums.stages_hold.Given as goal

abbrev pub invariant-loop-stage : goal.invariant-loop-stage
invariant-loop-stage g l = (i : ℕ) → i < l.stage
    → ((v : ℕ) → 1 ≤ v → v ≤ l.ground.net.now.nodes
    → HoldsInto (setting_of l.ground.net.now) l.ground.incoming.now l.sums.price (reduced_in (sums_of l.sums.sums.items)) i v)
    × EndsBy (reduced_in (sums_of l.sums.sums.items)) i (slice_get (g.R.Ruler.ruling l.ground.ruler.now).services i)
