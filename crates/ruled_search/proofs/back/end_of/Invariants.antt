use Rattle.std.proofs.Common.{◌≡◌, true}
use Rattle.ruled_search.specs.Inside.Tasks.{progress_of}
use Rattle.ruled_search.proofs.Tried.{IsLeastOf}
use Rattle.ruled_search.proofs.back.end_of.Given as goal

abbrev pub invariant-loop-place : goal.invariant-loop-place
invariant-loop-place g l = IsLeastOf l.progress.table.infos (progress_of l.progress).cost l.task.request.goal.0 l.pair.arrival l.pair.cost
    (λ k. (g.R.Ruler.ruling l.task.ruler.now).ends k ≡ true) l.place-items l.place-index l.least
