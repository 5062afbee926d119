use Rattle.trip_batch.specs.Right.{AreRight}
use Rattle.trip_batch.proofs.one_by_one.OneByOnePartPlanner.plan_part.Given as goal

abbrev pub invariant-loop-job : goal.invariant-loop-job
invariant-loop-job g l = AreRight (g.P.JobPlanner.is_right l.self.planner.now) l.from l.job l.texts.items
