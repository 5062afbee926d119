use Rattle.std.proofs.Common.{◌<◌, ℕ}
use Rattle.ruled_search.specs.Inside.Sources.{HasNoRoad}
use Rattle.ruled_search.specs.Inside.Tasks.{progress_of, task_of}
use Rattle.ruled_search.proofs.sources.rest_into.Given as goal

abbrev pub invariant-loop-place : goal.invariant-loop-place
invariant-loop-place g l = (i : ℕ) → i < l.place → HasNoRoad (task_of _ g.R.Ruler.ruling l.task) (progress_of l.progress).cost l.spot 1 i
