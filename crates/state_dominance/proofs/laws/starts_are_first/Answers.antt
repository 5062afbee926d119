use Rattle.state_dominance.proofs.Widening.{start_offer, start_first}
use Rattle.state_dominance.proofs.laws.starts_are_first.Goals as goal

pub returns-clause-offer : goal.returns-clause-offer
returns-clause-offer c = λ k now costs clear wide sim bound alone first closed. start_offer k now costs alone sim bound clear wide first closed

pub returns-clause-first : goal.returns-clause-first
returns-clause-first c = λ k now costs clear wide sim bound alone first closed blank.
    start_first k now costs alone sim bound clear wide first closed blank
