use Rattle.state_dominance.proofs.Finishing.{front}
use Rattle.state_dominance.proofs.laws.finished_is_front.Goals as goal

pub returns : goal.returns
returns c = λ k now sim bound in_time facts done. front k now sim bound facts done in_time
