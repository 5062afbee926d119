use Rattle.drive_states.proofs.StateSums.{first_less, rests_counted}
use Rattle.drive_states.proofs.state_count.rests_of.Goals as goal

pub overflow_sub-result : goal.overflow_sub-result
overflow_sub-result c = first_less c.row-row.result.now c.args.plan.rule.drive c.count_below.result c.count_below-2.result c.count_below.ensures
    c.count_below-2.ensures

pub returns : goal.returns
returns c = rests_counted c.args.rows.now c.row-row.result.now c.args.plan.rule.drive c.args.v.0 c.count_below.result c.count_below-2.result
    c.weight.result _ c.row-row.ensures c.count_below.ensures c.count_below-2.ensures c.if-is_none.ensures c.weight.ensures.value
