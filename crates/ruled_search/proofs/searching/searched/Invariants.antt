use Rattle.propagation.specs.Inside.EntrySets.{AreEntrySets}
use Rattle.state_dominance.specs.Inside.Dominance.{IsResting}
use Rattle.ruled_search.specs.Inside.Tasks.{task_of, progress_of, work_of, IsShapedFor}
use Rattle.ruled_search.proofs.searching.searched.Given as goal

abbrev pub invariant-turns : goal.invariant-turns
invariant-turns g l = record {
  entries : AreEntrySets l.task.net.now l.task.request.until l.tools.sets;
  shape : IsShapedFor _ g.R.Ruler.ruling l.task 0 l.progress;
  facts : IsResting (task_of _ g.R.Ruler.ruling l.task) (progress_of l.progress);
}

abbrev pub decreases-turns : goal.decreases-turns
decreases-turns g l = work_of l.task.request.until (progress_of l.progress)
