use Rattle.plan_report.proofs.Agreeing.{same_report}
use Rattle.plan_report.proofs.laws.reports_agree.Goals as goal

pub returns : goal.returns
returns c = same_report
