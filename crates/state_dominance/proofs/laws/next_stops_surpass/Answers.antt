use Rattle.state_dominance.proofs.NextStops.{surpassed}
use Rattle.state_dominance.proofs.laws.next_stops_surpass.Goals as goal

pub returns : goal.returns
returns c = λ s r base origin goal_node depart until bound latest now price sum sim best staged is_base bounds minutes sums stop v k t x is node in_time out.
    surpassed s r base origin goal_node depart until bound latest now price sum sim best staged is_base bounds minutes sums stop v k t x is node in_time out
