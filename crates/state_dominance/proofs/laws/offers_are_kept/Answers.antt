use Rattle.state_dominance.proofs.Keeping.{takes_keeps, takes_first}
use Rattle.state_dominance.proofs.laws.offers_are_kept.Goals as goal

pub returns-clause-takes : goal.returns-clause-takes
returns-clause-takes c = λ k old new v h part offer sim bound facts offers takes. takes_keeps k old new h offer sim bound offers takes v part facts

pub returns-clause-first : goal.returns-clause-first
returns-clause-first c = λ k old new h offer sim bound first offers takes. takes_first k old new h offer sim bound offers takes first
