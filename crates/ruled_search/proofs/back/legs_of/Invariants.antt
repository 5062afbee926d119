use Rattle.ruled_search.specs.Inside.Tasks.{progress_of, task_of}
use Rattle.ruled_search.proofs.Ends.{IsOnWay}
use Rattle.ruled_search.proofs.back.legs_of.Given as goal

abbrev pub invariant-back : goal.invariant-back
invariant-back g l = IsOnWay (task_of _ g.R.Ruler.ruling l.task) l.progress.table.infos (progress_of l.progress).cost l.legs.items l.fn.pair l.spot

abbrev pub decreases-back : goal.decreases-back
decreases-back g l = l.spot.minute
