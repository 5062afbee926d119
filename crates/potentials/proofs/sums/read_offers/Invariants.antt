use Rattle.std.proofs.Common.{◌≡◌, ◌<◌, ℕ, Some, All}
use Rattle.std.specs.Prelude.{slice_get}
use Rattle.route_base.specs.declared.types.ArcId.{ArcId}
use Rattle.potentials.specs.Inside.Summing.{IsArcRead, IsOffer}
use Rattle.potentials.proofs.sums.read_offers.Given as goal

abbrev pub invariant-loop-a : goal.invariant-loop-a
invariant-loop-a l = record {
  each : All (IsOffer l.plan.net.now l.plan.counted l.plan.cap l.v.0 l.x) l.offers.items;
  read : (i : ℕ) (a : ArcId) → i < l.a-index → slice_get l.a-items i ≡ Some a → IsArcRead l.plan.net.now l.plan.counted l.plan.cap l.x l.offers.items a.0;
}
