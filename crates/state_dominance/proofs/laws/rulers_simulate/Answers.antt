use Rattle.state_dominance.proofs.Simulating.{is_simulation, are_bounds}
use Rattle.state_dominance.proofs.laws.rulers_simulate.Goals as goal

pub returns-clause-simulate : goal.returns-clause-simulate
returns-clause-simulate c = λ s r base origin goal_node depart until bound latest sim is_base bounds minutes.
    is_simulation s r base origin goal_node depart until bound latest sim is_base bounds minutes

pub returns-clause-bounds : goal.returns-clause-bounds
returns-clause-bounds c = λ s r base origin goal_node depart until bound latest sim is_base bounds minutes.
    are_bounds s r base origin goal_node depart until bound latest sim is_base bounds minutes
