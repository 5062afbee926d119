use Rattle.std.proofs.Common.{◌≡◌, ◌<◌, ℕ, Some}
use Rattle.std.specs.Prelude.{slice_get}
use Rattle.route_base.specs.declared.types.ArcId.{ArcId}
use Rattle.ruled_search.specs.Inside.Sources.{HasNoRoad}
use Rattle.ruled_search.specs.Inside.Tasks.{progress_of, task_of}
use Rattle.ruled_search.proofs.sources.source_of.Given as goal

abbrev pub invariant-loop-a : goal.invariant-loop-a
invariant-loop-a g l = (i : ℕ) (a : ArcId) → i < l.a-index → slice_get l.a-items i ≡ Some a
    → HasNoRoad (task_of _ g.R.Ruler.ruling l.task) (progress_of l.progress).cost l.spot 0 a.0

abbrev pub invariant-loop-place : goal.invariant-loop-place
invariant-loop-place g l = (i : ℕ) → i < l.place → HasNoRoad (task_of _ g.R.Ruler.ruling l.task) (progress_of l.progress).cost l.spot 2 i
