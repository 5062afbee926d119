use Rattle.std.proofs.Common.{◌+◌, List, length, ap, ◌∙◌, arith}
use Rattle.route_base.specs.Net.{setting_of}
use Rattle.route_base.specs.declared.types.TimedArc.{TimedArc}
use Rattle.drive_states.specs.Inside.StateMarks.{drives_by}
use Rattle.drive_states.proofs.StateSums.{all_drives_few, drives_next, sum_next}
use Rattle.drive_states.proofs.state_count.drive_count.Goals as goal

pub overflow_add-count : goal.overflow_add-count
overflow_add-count c =
    omega (
      arith,
      all_drives_few (setting_of c.args.plan.net.now) c.args.rows.now c.args.plan.rule.drive (c.loop-arc.arc-index + 1) _ c.requires c.loop-arc.invariant,
      c.from-count.ensures,
      c.drives_of.type_inv,
      c.loop-arc-test.true,
      ap (λ (w : List TimedArc). length w) c.arcs-arc-items.ensures.value,
      c.arcs-arc-items.ensures.good.arcs,
    )

pub loop-arc-preserved : goal.loop-arc-preserved
loop-arc-preserved c =
    sum_next (λ a. drives_by c.args.rows.now c.args.plan.rule.drive ((setting_of c.args.plan.net.now).road a)) (c.loop-arc.arc-index + 1) c.loop-arc.count
    c.from-count.result c.loop-arc.invariant
    (c.from-count.ensures ∙ c.drives_of.ensures ∙ drives_next c.args.plan.net.now c.args.rows.now c.args.plan.rule.drive c.arcs-arc-items.result.now
    c.loop-arc.arc-index _ c.arcs-arc-items.ensures.value c.loop-arc-test.true)

pub returns-clause-few : goal.returns-clause-few
returns-clause-few c =
    omega (
      arith,
      all_drives_few (setting_of c.args.plan.net.now) c.args.rows.now c.args.plan.rule.drive (c.loop-arc.arc-index + 1) _ c.requires c.loop-arc.invariant,
      c.loop-arc.auto.arc-index-end,
      ap (λ (w : List TimedArc). length w) c.arcs-arc-items.ensures.value,
      c.arcs-arc-items.ensures.good.arcs,
    )
