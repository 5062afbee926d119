use Rattle.road_access.specs.Inside.{RulesSeen}
use Rattle.road_access.proofs.steady_hours.rules_steady.Given as goal

abbrev pub invariant-loop-i : goal.invariant-loop-i
invariant-loop-i l = RulesSeen l.at l.most l.hours l.i l.count
