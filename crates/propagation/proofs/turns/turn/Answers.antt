use Rattle.std.proofs.Common.{◌≡◌, true, false, Option, None, Some, refl, sym, ◌∙◌, arith}
use Rattle.route_base.specs.declared.types.Bound.{Bound}
use Rattle.propagation.proofs.Fitting.{small_costs}
use Rattle.propagation.proofs.Measuring.{improves_falls, parts_fall}
use Rattle.propagation.proofs.Parting.{parts_keep, pending_bound}
use Rattle.propagation.proofs.Splitting.{pending_is}
use Rattle.propagation.proofs.turns.turn.Goals as goal
use Rattle.cost_functions.specs.Pieces.{value_at}
use Rattle.propagation.specs.Inside.States.{progress_of, task_of}

pub returns-in_default-clause-shape : goal.returns-in_default-clause-shape
returns-in_default-clause-shape c =
    let p = pending_bound (task_of c.args.task) (progress_of c.args.progress.now) c.args.v.0 c.requires.some.0 c.requires.facts c.requires.some.1 in
    let bad : ◌≡◌ {A = Option Bound} None (Some p.0) = sym c.in_default.is ∙ (c.get.ensures ∙ p.1) in
    cc

pub returns-in_default-clause-less : goal.returns-in_default-clause-less
returns-in_default-clause-less c =
    let p = pending_bound (task_of c.args.task) (progress_of c.args.progress.now) c.args.v.0 c.requires.some.0 c.requires.facts c.requires.some.1 in
    let bad : ◌≡◌ {A = Option Bound} None (Some p.0) = sym c.in_default.is ∙ (c.get.ensures ∙ p.1) in
    cc

pub returns-in_default-first_of-clause-shape : goal.returns-in_default-first_of-clause-shape
returns-in_default-first_of-clause-shape c =
    let own = pending_is c.args.progress.now.pending.items c.args.v.0 c.index.result.now c.requires.low
    (omega (arith, c.requires.high, c.requires.shape.pending)) c.index.ensures c.requires.some.0 in
    let bad : true ≡ false = sym c.requires.some.1 ∙ (own ∙ c.in_default-first_of.ensures.none refl c.requires.some.0) in
    cc

pub returns-in_default-first_of-clause-less : goal.returns-in_default-first_of-clause-less
returns-in_default-first_of-clause-less c =
    let own = pending_is c.args.progress.now.pending.items c.args.v.0 c.index.result.now c.requires.low
    (omega (arith, c.requires.high, c.requires.shape.pending)) c.index.ensures c.requires.some.0 in
    let bad : true ≡ false = sym c.requires.some.1 ∙ (own ∙ c.in_default-first_of.ensures.none refl c.requires.some.0) in
    cc

pub part_of-requires-clause-first : goal.part_of-requires-clause-first
part_of-requires-clause-first c =
    pending_is c.args.progress.now.pending.items c.args.v.0 c.index.result.now c.requires.low
    (omega (arith, c.requires.high, c.requires.shape.pending)) c.index.ensures c.in-Some-first_of.first ∙ c.in-Some-first_of.ensures.some

pub part_of-requires-clause-early : goal.part_of-requires-clause-early
part_of-requires-clause-early c =
    let there = pending_is c.args.progress.now.pending.items c.args.v.0 c.index.result.now c.requires.low
    (omega (arith, c.requires.high, c.requires.shape.pending)) c.index.ensures c.in-Some-first_of.first ∙ c.in-Some-first_of.ensures.some in
    let p = pending_bound (task_of c.args.task) (progress_of c.args.progress.now) c.args.v.0 c.in-Some-first_of.first c.requires.facts there in
    omega (arith, p.2, c.requires.asked.ends.until)

pub drive_all-requires-clause-facts : goal.drive_all-requires-clause-facts
drive_all-requires-clause-facts c = parts_keep (task_of c.args.task) c.args.v.0 (value_at c.in_ok-part.part) (progress_of c.args.progress.now)
    (progress_of c.part_of.new.progress) c.requires.facts c.in_ok-part.ensures.parts

pub returns-clause-less : goal.returns-clause-less
returns-clause-less c =
    let k = task_of c.args.task in
    let old = progress_of c.args.progress.now in
    let parts = c.in_ok-part.ensures.parts in
    let better = c.in_ok-drive_all.ensures.better in
    let less = parts_fall c.args.task.net.now.nodes c.args.task.request.until old (progress_of c.part_of.new.progress)
    parts.cost parts.less c.args.v.0 parts.some.0 parts.some.1 parts.some.2 c.requires.high
    (pending_bound k old c.args.v.0 parts.some.0 c.requires.facts parts.some.1).2 in
    let rest = improves_falls c.args.task.net.now.nodes c.args.task.request.until (progress_of c.part_of.new.progress)
    (progress_of c.drive_all.new.progress) better.less better.cause
    (small_costs k (progress_of c.drive_all.new.progress) c.requires.asked.fit c.in_ok-drive_all.ensures.facts.sound) in
    omega (arith, less, rest)
