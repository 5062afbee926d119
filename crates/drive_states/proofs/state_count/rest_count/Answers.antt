use Rattle.std.proofs.Common.{◌∙◌, arith}
use Rattle.route_base.specs.Net.{setting_of}
use Rattle.drive_states.specs.Inside.StateMarks.{rests_by}
use Rattle.drive_states.proofs.StateSums.{all_rests_few, sum_next}
use Rattle.drive_states.proofs.state_count.rest_count.Goals as goal

pub overflow_add-count : goal.overflow_add-count
overflow_add-count c =
    omega (
      arith,
      all_rests_few (setting_of c.args.plan.net.now) c.args.rows.now c.args.plan.rule.drive c.loop-v.v _ c.requires c.loop-v.invariant,
      c.from-count.ensures,
      c.rests_of.type_inv,
      c.loop-v-test.true,
      c.node_count-v-end.ensures.value,
      c.node_count-v-end.ensures.good.nodes,
    )

pub loop-v-preserved : goal.loop-v-preserved
loop-v-preserved c =
    sum_next (λ v. rests_by c.args.rows.now c.args.plan.rule.drive v ((setting_of c.args.plan.net.now).weight v)) c.loop-v.v c.loop-v.count
    c.from-count.result c.loop-v.invariant (c.from-count.ensures ∙ c.rests_of.ensures)

pub returns-clause-few : goal.returns-clause-few
returns-clause-few c =
    omega (
      arith,
      all_rests_few (setting_of c.args.plan.net.now) c.args.rows.now c.args.plan.rule.drive c.loop-v.v _ c.requires c.loop-v.invariant,
      c.loop-v.auto.v-end (omega arith),
      c.node_count-v-end.ensures.value,
      c.node_count-v-end.ensures.good.nodes,
    )
