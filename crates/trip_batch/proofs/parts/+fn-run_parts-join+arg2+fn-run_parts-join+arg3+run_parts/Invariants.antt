use Rattle.std.proofs.Common.{◌+◌, ◌-◌, ◌*◌}
use Rattle.trip_batch.proofs.parts.+fn-run_parts-join+arg2+fn-run_parts-join+arg3+run_parts.Given as goal

abbrev pub decreases-join+arg2 : goal.decreases-join+arg2
decreases-join+arg2 g l = 2 * l.left_workers + 1

abbrev pub decreases-join+arg3 : goal.decreases-join+arg3
decreases-join+arg3 g l = 2 * (l.workers - l.left_workers) + 1

abbrev pub decreases-run_parts : goal.decreases-run_parts
decreases-run_parts g l = 2 * l.workers
