use Rattle.std.proofs.Common.{◌≡◌, ◌+◌, ◌++◌, drop}
use Rattle.plan_report.specs.Batch.{job_text}
use Rattle.plan_report.specs.Stages.{numbered_text}
use Rattle.plan_report.proofs.batch.push_jobs.Given as goal

abbrev pub invariant-loop-i : goal.invariant-loop-i
invariant-loop-i l = l.out.items ++ numbered_text job_text (l.i + 1) (drop l.i l.texts) ≡ l.initial.out.items ++ numbered_text job_text 1 l.texts
