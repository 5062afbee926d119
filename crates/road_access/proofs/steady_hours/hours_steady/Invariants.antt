use Rattle.road_access.specs.Inside.{DaysSeen}
use Rattle.road_access.proofs.steady_hours.hours_steady.Given as goal

abbrev pub invariant-loop-k : goal.invariant-loop-k
invariant-loop-k l = DaysSeen l.minute l.most l.hours l.k l.count
