use Rattle.propagation.specs.Inside.EntrySets.{AreEntrySets}
use Rattle.propagation.specs.Inside.Invariants.{IsResting}
use Rattle.propagation.specs.Inside.Measures.{work}
use Rattle.propagation.specs.Inside.States.{IsShaped, progress_of, task_of}
use Rattle.propagation.proofs.searching.searched.Given as goal

abbrev pub invariant-turns : goal.invariant-turns
invariant-turns l = record {
  entries : AreEntrySets l.task.net.now l.task.request.until l.sets;
  shape : IsShaped l.task.net.now.nodes 0 l.progress;
  facts : IsResting (task_of l.task) (progress_of l.progress);
}

abbrev pub decreases-turns : goal.decreases-turns
decreases-turns l = work l.task.net.now.nodes l.task.request.until (progress_of l.progress)
