use Rattle.std.proofs.Common.{ap, sym, ◌∙◌, length, arith}
use Rattle.plan_report.specs.Batch.{batch_text_of}
use Rattle.front_desk.proofs.Batches.{batch_by}
use Rattle.front_desk.proofs.Grouping.{kept_groups}
use Rattle.front_desk.proofs.JobOrders.{ordered_alike}
use Rattle.front_desk.proofs.batch.texts_of_jobs.Goals as goal

pub returns : goal.returns
returns g c =
    let jobs = c.args.jobs.now in
    let is = ordered_alike (ap length c.as_slice.ensures) (sym c.as_slice-order.ensures.value) c.in_ok-numbers.ensures in
    batch_by c.args.network.now jobs c.as_slice-order.result.now c.in_ok-texts.texts c.in_ok-text.text.items is.counted c.in_ok-texts.ensures
    (c.in_ok-text.ensures ∙ ap batch_text_of c.as_slice-2.ensures)

pub invariant_of-trips : goal.invariant_of-trips
invariant_of-trips g c =
    let is = ordered_alike (ap length c.as_slice.ensures) (sym c.as_slice-order.ensures.value) c.in_ok-numbers.ensures in
    record { grouped = kept_groups c.args.network.now c.in_ok-groups.groups c.in_ok-groups.ensures; timed = c.requires.timed; ordered = is.each }

pub run_in_order-requires-clause-all : goal.run_in_order-requires-clause-all
run_in_order-requires-clause-all g c t lives job below =
    let is = ordered_alike (ap length c.as_slice.ensures) (sym c.as_slice-order.ensures.value) c.in_ok-numbers.ensures in
    is.all job (omega (arith, below, is.counted))
