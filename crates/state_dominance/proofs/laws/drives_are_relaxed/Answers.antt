use Rattle.state_dominance.proofs.Relaxing.{drive_relaxed}
use Rattle.state_dominance.proofs.laws.drives_are_relaxed.Goals as goal

pub returns : goal.returns
returns c = λ k old new a v h part ends clear wide narrow sim bound driven first closed cut offers takes.
    drive_relaxed k old new sim bound a v h part ends clear wide narrow driven first closed cut offers takes
