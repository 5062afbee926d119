use Rattle.std.proofs.Common.{arith}
use Rattle.road_access.proofs.SteadyHours.{all_rules, next_rule}
use Rattle.road_access.proofs.steady_hours.rules_steady.Goals as goal

pub loop-i-preserved : goal.loop-i-preserved
loop-i-preserved c =
    next_rule c.args.at c.args.most c.args.hours.now c.loop-i.i c.loop-i.count c.rule_steady-count.result c.loop-i.invariant
    c.rule_steady-count.ensures.some c.rule_steady-count.ensures.most c.rule_steady-count.ensures.same

pub returns-clause-same : goal.returns-clause-same
returns-clause-same c =
    all_rules c.args.at c.args.most c.args.hours.now c.loop-i.i c.loop-i.count
    (omega (arith, c.loop-i-test.false, c.len-i-end.ensures.value)) c.loop-i.invariant
