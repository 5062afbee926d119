use Rattle.front_desk.proofs.ExactExplanations.{lawful_exactly, unlawful_exactly}
use Rattle.front_desk.proofs.laws.explanations_are_exact.Goals as goal

pub returns-clause-lawful : goal.returns-clause-lawful
returns-clause-lawful c = λ network vehicle request legs text pair told achieves. lawful_exactly network vehicle request legs text pair told achieves

pub returns-clause-unlawful : goal.returns-clause-unlawful
returns-clause-unlawful c = λ network vehicle request legs text leg minute why told unlawful.
    unlawful_exactly network vehicle request legs text leg minute why told unlawful
