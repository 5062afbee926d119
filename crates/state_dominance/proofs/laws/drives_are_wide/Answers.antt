use Rattle.state_dominance.proofs.Widening.{closed_wide, driven_source}
use Rattle.state_dominance.proofs.laws.drives_are_wide.Goals as goal

pub returns : goal.returns
returns c = λ k now a v h part ends clear wide sim bound known driven first closed.
    closed_wide k now sim bound h ends clear wide (driven_source k now a v h part ends known driven) first closed
