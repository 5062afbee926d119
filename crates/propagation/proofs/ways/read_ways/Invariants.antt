use Rattle.std.proofs.Common.{◌≡◌, ◌<◌, ℕ, Some, All}
use Rattle.std.specs.Prelude.{slice_get}
use Rattle.route_base.specs.declared.types.ArcId.{ArcId}
use Rattle.propagation.proofs.ways.read_ways.Given as goal
use Rattle.propagation.specs.Inside.States.{IsArcRead, IsOutgoingArc}

abbrev pub invariant-loop-a : goal.invariant-loop-a
invariant-loop-a l = record {
  arcs : All (IsOutgoingArc l.task l.v.0) l.ways.items;
  read : (i : ℕ) (a : ArcId) → i < l.a-index → slice_get l.a-items i ≡ Some a → IsArcRead l.task l.progress l.v.0 l.part l.ways.items a.0;
}
