use Rattle.ban_expansion.proofs.Lasts.{last_flat}
use Rattle.ban_expansion.proofs.laws.last_of_all.Goals as goal

pub returns : goal.returns
returns g c = λ parts f places. last_flat parts f places
