use Rattle.std.proofs.Common.{◌≡◌, ◌≤◌, ◌<◌, ℕ, Some}
use Rattle.std.specs.Prelude.{slice_get}
use Rattle.route_base.specs.declared.limits.TheConstants.{LONGEST_DRIVE}
use Rattle.route_base.specs.declared.types.TimedArc.{TimedArc}
use Rattle.potentials.proofs.searches.longest_arc.Given as goal

abbrev pub invariant-loop-arc : goal.invariant-loop-arc
invariant-loop-arc l = record {
  small : l.longest ≤ LONGEST_DRIVE;
  most : (k : ℕ) (arc : TimedArc) → k < l.arc-index → slice_get l.arc-items k ≡ Some arc → arc.minutes ≤ l.longest;
}
