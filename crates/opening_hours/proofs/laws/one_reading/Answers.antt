use Rattle.std.proofs.Common.{sym}
use Rattle.opening_hours.proofs.Whole.{one_reading}
use Rattle.opening_hours.proofs.laws.one_reading.Goals as goal

pub returns : goal.returns
returns c = λ text a b h k. sym (one_reading text a b h k)
