use Rattle.std.proofs.Common.{◌≡◌, leb, true, false, length, ap, arith, rules}
use Rattle.std.specs.List.{AllWithin}
use Rattle.std.proofs.lemmas.List.Sorted.{IsPartitionedBy-leb, IsPartitionPoint-from_clause}
use Rattle.std.proofs.lemmas.Bool.{leb-false}
use Rattle.route_base.specs.declared.types.Run.{Run}
use Rattle.route_base.proofs.FreeRuns.{ends_rise, free_before, free_behind}
use Rattle.certificate_check.proofs.MetRuns.{is_met}
use Rattle.certificate_check.proofs.breaks.closed_until.Goals.{After-partition_point-later}
use Rattle.certificate_check.proofs.breaks.closed_until.Goals as goal

-- the runs before the place end by the minute, and the others end later
parted : (c : After-partition_point-later) → AllWithin (λ r. leb r.hi c.args.t ≡ true) c.args.runs.now 0 c.partition_point-later.result
    × AllWithin (λ r. leb r.hi c.args.t ≡ false) c.args.runs.now c.partition_point-later.result (length c.args.runs.now)
parted c = IsPartitionPoint-from_clause (λ r. leb r.hi c.args.t) c.args.runs.now c.partition_point-later.result c.partition_point-later.ensures.partitioned
    (IsPartitionedBy-leb (λ r. r.hi) c.args.runs.now c.args.t (ends_rise c.args.runs.now c.requires.runs)) (λ a r f called. search rules)

pub returns-in_err-run-clause-none : goal.returns-in_err-run-clause-none
returns-in_err-run-clause-none c = λ _.
    let p = parted (goal.at.returns-in_err-run-clause-none c).After-partition_point-later in
    free_behind c.args.runs.now c.requires.runs c.args.t c.args.minutes c.partition_point-later.result
    c.requires.some p.0 p.1 c.in_err-run.ensures.lookup.3

pub returns-then-minutes-saturating_sub-clause-none : goal.returns-then-minutes-saturating_sub-clause-none
returns-then-minutes-saturating_sub-clause-none c = λ _.
    let p = parted (goal.at.returns-then-minutes-saturating_sub-clause-none c).After-partition_point-later in
    let lookup = c.in_ok-run.ensures.lookup in
    free_before c.args.runs.now c.requires.runs c.args.t c.args.minutes c.partition_point-later.result c.requires.some p.0 p.1
    c.in_ok-run.field-0.now lookup.3.0 lookup.1 (omega (arith, c.if-minutes-saturating_sub.true, c.saturating_sub.ensures, c.requires.some))

pub returns-else-minutes-saturating_sub-clause-some : goal.returns-else-minutes-saturating_sub-clause-some
returns-else-minutes-saturating_sub-clause-some c =
    let p = parted (goal.at.returns-else-minutes-saturating_sub-clause-some c).After-partition_point-later in
    let lookup = c.in_ok-run.ensures.lookup in
    let ends = leb-false _ _ (p.1 c.partition_point-later.result c.in_ok-run.field-0.now (omega arith) lookup.3.0) in
    omega (arith, ends, ap (λ (r : Run). r.hi) lookup.1)

pub returns-else-minutes-saturating_sub-clause-closed : goal.returns-else-minutes-saturating_sub-clause-closed
returns-else-minutes-saturating_sub-clause-closed c = λ s from before free.
    let lookup = c.in_ok-run.ensures.lookup in
    is_met c.args.runs.now c.partition_point-later.result c.in_ok-run.field-0.now s c.args.minutes c.requires.runs c.requires.some lookup.3.0 lookup.1
    (omega (arith, from, c.if-minutes-saturating_sub.false, c.saturating_sub.ensures)) before free
