use Rattle.drive_breaks.proofs.OneRestedAnswer.{one_rested_answer as only}
use Rattle.drive_breaks.proofs.laws.one_rested_answer.Goals as goal

pub returns : goal.returns
returns c = only
