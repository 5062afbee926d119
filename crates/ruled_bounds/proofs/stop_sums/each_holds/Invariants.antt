use Rattle.std.proofs.Common.{◌<◌, ℕ, get_or}
use Rattle.route_base.specs.Net.{setting_of}
use Rattle.route_base.specs.declared.types.ArcId.{ArcId}
use Rattle.ruled_states.specs.Inside.Reduced.{reduced_in, sums_of}
use Rattle.ruled_bounds.specs.Inside.Reducing.{IsReducedBy}
use Rattle.ruled_bounds.proofs.stop_sums.each_holds.Given as goal

abbrev pub invariant-loop-a : goal.invariant-loop-a
invariant-loop-a l = (k : ℕ) (d : ArcId) → k < l.a-index
    → IsReducedBy l.sums.price (reduced_in (sums_of l.sums.sums.items)) l.stage ((setting_of l.net).road (get_or l.arcs k d).0)
