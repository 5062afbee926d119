use Rattle.minute_sets.proofs.HeadRuns.{rest_runs}
use Rattle.minute_sets.proofs.sweep.runs_from.Goals as goal

pub returns-then-run-from-clause-runs : goal.returns-then-run-from-clause-runs
returns-then-run-from-clause-runs c = rest_runs c.args.runs.now c.in-len1-up.len_at_least c.requires.runs
