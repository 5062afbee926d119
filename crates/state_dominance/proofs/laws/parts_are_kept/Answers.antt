use Rattle.std.proofs.Common.{◌≡◌, ◌⊎◌, inl, inr, ⊎_elim, Some}
use Rattle.propagation.specs.Inside.Invariants.{point}
use Rattle.state_dominance.specs.Inside.Dominance.{IsDominated, IsSurpassed}
use Rattle.state_dominance.proofs.Parting.{parts_keep, lessen, settle}
use Rattle.state_dominance.proofs.laws.parts_are_kept.Goals as goal

pub returns-clause-takes : goal.returns-clause-takes
returns-clause-takes c = λ k old new v part facts parts. parts_keep k v part old new facts parts

pub returns-clause-narrows : goal.returns-clause-narrows
returns-clause-narrows c = λ k now v wide narrow facts lost. lessen k now v wide narrow facts (λ t x is. ⊎_elim
    (λ (stays : narrow t ≡ Some x). inl stays)
    (λ (d : IsDominated k now (point v t x)). inr (inl d))
    (lost t x is))

pub returns-clause-surpasses : goal.returns-clause-surpasses
returns-clause-surpasses c = λ k now v wide narrow facts lost. lessen k now v wide narrow facts (λ t x is. ⊎_elim
    (λ (stays : narrow t ≡ Some x). inl stays)
    (λ (b : IsSurpassed k now (point v t x)). inr (inr (inl b)))
    (lost t x is))

pub returns-clause-done : goal.returns-clause-done
returns-clause-done c = λ k now v part facts all. settle k now v part facts all
