use Rattle.road_access.proofs.RulingAccess.{ruling_access}
use Rattle.road_access.proofs.laws.ruling_decides.Goals as goal

pub returns : goal.returns
returns c = ruling_access
