use Rattle.drive_breaks.proofs.LastBreak.{some_stretch, same_stretch}
use Rattle.drive_breaks.proofs.laws.one_stretch.Goals as goal

pub returns-clause-some : goal.returns-clause-some
returns-clause-some c = some_stretch

pub returns-clause-one : goal.returns-clause-one
returns-clause-one c = same_stretch
