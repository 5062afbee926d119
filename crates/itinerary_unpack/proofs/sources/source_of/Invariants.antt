use Rattle.std.proofs.Common.{◌≡◌, ◌<◌, ℕ, Some}
use Rattle.std.specs.Prelude.{slice_get}
use Rattle.route_base.specs.Itinerary.{drive}
use Rattle.route_base.specs.declared.types.ArcId.{ArcId}
use Rattle.route_base.specs.StepsBack.{HasNoMove}
use Rattle.propagation.specs.Inside.Invariants.{point}
use Rattle.itinerary_unpack.specs.Inside.Requests.{setting_in, solved_cost}
use Rattle.itinerary_unpack.proofs.sources.source_of.Given as goal

abbrev pub invariant-loop-a : goal.invariant-loop-a
invariant-loop-a l = (i : ℕ) (a : ArcId) → i < l.a-index → slice_get l.a-items i ≡ Some a
    → HasNoMove (setting_in l.solved) l.solved.request.until (solved_cost l.solved) (drive a.0) (point l.v.0 l.t l.x)
