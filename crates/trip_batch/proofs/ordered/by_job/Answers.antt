use Rattle.std.proofs.Common.{arith}
use Rattle.std.proofs.lemmas.Grind.{common_steps}
use Rattle.trip_batch.proofs.ordered.by_job.Goals as goal

pub returns : goal.returns
returns c = grind (arith, common_steps)
