use Rattle.state_dominance.proofs.Narrowing.{narrowed}
use Rattle.state_dominance.proofs.laws.wide_offers_narrow.Goals as goal

pub returns : goal.returns
returns c = λ k now v h part wide narrow sim facts all some. narrowed k now v h part wide narrow sim facts all some
