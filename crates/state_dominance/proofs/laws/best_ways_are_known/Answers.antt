use Rattle.state_dominance.proofs.Finishing.{known_exactly}
use Rattle.state_dominance.proofs.laws.best_ways_are_known.Goals as goal

pub returns : goal.returns
returns c = λ k now sim bound in_time facts done pair one p reach after g at_goal walk best.
    known_exactly k now sim bound facts done in_time pair one p reach after g at_goal walk best
