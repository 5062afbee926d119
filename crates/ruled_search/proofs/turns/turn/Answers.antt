use Rattle.std.proofs.Common.{◌≡◌, true, false, Option, None, Some, refl, sym, ◌∙◌, ap, arith}
use Rattle.cost_functions.specs.Pieces.{value_at}
use Rattle.propagation.specs.Inside.Invariants.{no_part}
use Rattle.propagation.specs.Inside.States.{is_pending}
use Rattle.propagation.proofs.Splitting.{pending_is}
use Rattle.state_dominance.proofs.Parting.{parts_keep, settle}
use Rattle.ruled_states.specs.Inside.Tables.{code_of}
use Rattle.ruled_states.specs.declared.table.Info.{Info}
use Rattle.ruled_search.specs.Inside.Tasks.{task_of, progress_of, state_bound}
use Rattle.ruled_search.proofs.Relaxed.{improves_append, part_kept, part_less, road_kept}
use Rattle.ruled_search.proofs.Reshaped.{good_info, own_number}
use Rattle.ruled_search.proofs.Turning.{part_known, pending_info, small_code}
use Rattle.ruled_search.proofs.Leaving.{all_relaxed}
use Rattle.ruled_search.proofs.Work.{pending_early, turn_falls}
use Rattle.ruled_search.proofs.turns.turn.Goals as goal

pub returns-in_default-clause-shape : goal.returns-in_default-clause-shape
returns-in_default-clause-shape g c =
    let now = c.args.progress.now in
    let i = pending_info now.table.infos now.pending.items c.args.number c.requires.some.0 c.requires.shape.pending c.requires.some.1 in
    let bad : ◌≡◌ {A = Option Info} None (Some i.0) = sym c.in_default.is ∙ (c.info.ensures ∙ i.1) in
    cc

pub returns-in_default-clause-less : goal.returns-in_default-clause-less
returns-in_default-clause-less g c =
    let now = c.args.progress.now in
    let i = pending_info now.table.infos now.pending.items c.args.number c.requires.some.0 c.requires.shape.pending c.requires.some.1 in
    let bad : ◌≡◌ {A = Option Info} None (Some i.0) = sym c.in_default.is ∙ (c.info.ensures ∙ i.1) in
    cc

pub returns-in_default-first_of-clause-shape : goal.returns-in_default-first_of-clause-shape
returns-in_default-first_of-clause-shape g c =
    let now = c.args.progress.now in
    let own = pending_is now.pending.items c.args.number c.index.result.now c.requires.low c.requires.high c.index.ensures c.requires.some.0 in
    let bad : true ≡ false = sym c.requires.some.1 ∙ (own ∙ c.in_default-first_of.ensures.none refl c.requires.some.0) in
    cc

pub returns-in_default-first_of-clause-less : goal.returns-in_default-first_of-clause-less
returns-in_default-first_of-clause-less g c =
    let now = c.args.progress.now in
    let own = pending_is now.pending.items c.args.number c.index.result.now c.requires.low c.requires.high c.index.ensures c.requires.some.0 in
    let bad : true ≡ false = sym c.requires.some.1 ∙ (own ∙ c.in_default-first_of.ensures.none refl c.requires.some.0) in
    cc

pub part_of-requires-clause-first : goal.part_of-requires-clause-first
part_of-requires-clause-first g c =
    let now = c.args.progress.now in
    pending_is now.pending.items c.args.number c.index.result.now c.requires.low c.requires.high c.index.ensures c.in-Some-first_of.first ∙ c.in-Some-first_of.ensures.some

pub part_of-requires-clause-early : goal.part_of-requires-clause-early
part_of-requires-clause-early g c =
    let now = c.args.progress.now in
    let first = c.in-Some-first_of.first in
    let info = c.in-Some.info in
    let at = sym c.info.ensures ∙ c.in-Some.is in
    let bound = state_bound (g.R.Ruler.ruling c.args.task.ruler.now) c.args.task.bounds.now in
    let there = pending_is now.pending.items c.args.number c.index.result.now c.requires.low c.requires.high c.index.ensures first ∙ c.in-Some-first_of.ensures.some in
    let own = own_number c.args.task.net.now.nodes bound c.args.number now c.requires.shape c.requires.asked.good.nodes c.args.number info at in
    let early = pending_early g.R.Ruler.ruling c.args.task c.requires.asked (progress_of now) 0 no_part c.requires.facts (code_of info) first
    (ap (λ n. is_pending now.pending.items n first) own ∙ there) in
    omega (arith, early, c.requires.asked.ends.until)

pub undone-requires-clause-low : goal.undone-requires-clause-low
undone-requires-clause-low g c =
    let bound = state_bound (g.R.Ruler.ruling c.args.task.ruler.now) c.args.task.bounds.now in
    (good_info c.args.task.net.now.nodes bound c.args.number c.args.progress.now c.requires.shape c.args.number c.in-Some.info
    (sym c.info.ensures ∙ c.in-Some.is)).node.0

pub undone-requires-clause-high : goal.undone-requires-clause-high
undone-requires-clause-high g c =
    let bound = state_bound (g.R.Ruler.ruling c.args.task.ruler.now) c.args.task.bounds.now in
    (good_info c.args.task.net.now.nodes bound c.args.number c.args.progress.now c.requires.shape c.args.number c.in-Some.info
    (sym c.info.ensures ∙ c.in-Some.is)).node.1

pub undone-requires-clause-bound : goal.undone-requires-clause-bound
undone-requires-clause-bound g c =
    let bound = state_bound (g.R.Ruler.ruling c.args.task.ruler.now) c.args.task.bounds.now in
    (good_info c.args.task.net.now.nodes bound c.args.number c.args.progress.now c.requires.shape c.args.number c.in-Some.info
    (sym c.info.ensures ∙ c.in-Some.is)).bound

pub undone-requires-clause-shape : goal.undone-requires-clause-shape
undone-requires-clause-shape g c = (0, c.in_ok-part.ensures.shape)

pub undone-requires-clause-facts : goal.undone-requires-clause-facts
undone-requires-clause-facts g c =
    let k = task_of _ g.R.Ruler.ruling c.args.task in
    parts_keep k (code_of c.in-Some.info) (value_at c.in_ok-part.part) (progress_of c.args.progress.now) (progress_of c.part_of.new.progress)
    c.requires.facts c.in_ok-part.ensures.parts

pub rest_all-requires-clause-low : goal.rest_all-requires-clause-low
rest_all-requires-clause-low g c =
    let bound = state_bound (g.R.Ruler.ruling c.args.task.ruler.now) c.args.task.bounds.now in
    (good_info c.args.task.net.now.nodes bound c.args.number c.args.progress.now c.requires.shape c.args.number c.in-Some.info
    (sym c.info.ensures ∙ c.in-Some.is)).node.0

pub rest_all-requires-clause-high : goal.rest_all-requires-clause-high
rest_all-requires-clause-high g c =
    let bound = state_bound (g.R.Ruler.ruling c.args.task.ruler.now) c.args.task.bounds.now in
    (good_info c.args.task.net.now.nodes bound c.args.number c.args.progress.now c.requires.shape c.args.number c.in-Some.info
    (sym c.info.ensures ∙ c.in-Some.is)).node.1

pub serve_next-requires-clause-low : goal.serve_next-requires-clause-low
serve_next-requires-clause-low g c =
    let bound = state_bound (g.R.Ruler.ruling c.args.task.ruler.now) c.args.task.bounds.now in
    (good_info c.args.task.net.now.nodes bound c.args.number c.args.progress.now c.requires.shape c.args.number c.in-Some.info
    (sym c.info.ensures ∙ c.in-Some.is)).node.0

pub serve_next-requires-clause-high : goal.serve_next-requires-clause-high
serve_next-requires-clause-high g c =
    let bound = state_bound (g.R.Ruler.ruling c.args.task.ruler.now) c.args.task.bounds.now in
    (good_info c.args.task.net.now.nodes bound c.args.number c.args.progress.now c.requires.shape c.args.number c.in-Some.info
    (sym c.info.ensures ∙ c.in-Some.is)).node.1

pub drive_each-requires-clause-low : goal.drive_each-requires-clause-low
drive_each-requires-clause-low g c =
    let bound = state_bound (g.R.Ruler.ruling c.args.task.ruler.now) c.args.task.bounds.now in
    (good_info c.args.task.net.now.nodes bound c.args.number c.args.progress.now c.requires.shape c.args.number c.in-Some.info
    (sym c.info.ensures ∙ c.in-Some.is)).node.0

pub drive_each-requires-clause-high : goal.drive_each-requires-clause-high
drive_each-requires-clause-high g c =
    let bound = state_bound (g.R.Ruler.ruling c.args.task.ruler.now) c.args.task.bounds.now in
    (good_info c.args.task.net.now.nodes bound c.args.number c.args.progress.now c.requires.shape c.args.number c.in-Some.info
    (sym c.info.ensures ∙ c.in-Some.is)).node.1

pub rest_all-requires-clause-part : goal.rest_all-requires-clause-part
rest_all-requires-clause-part g c =
    let k = task_of _ g.R.Ruler.ruling c.args.task in
    let now = progress_of c.part_of.new.progress in
    let code = code_of c.in-Some.info in
    part_less k code (value_at c.in_ok-part.part) now (value_at c.in_ok-live.live) c.in_ok-live.ensures.kept
    (part_known k (progress_of c.args.progress.now) now 0 code no_part (value_at c.in_ok-part.part) c.requires.facts c.in_ok-part.ensures.parts)

pub drive_each-requires-clause-part : goal.drive_each-requires-clause-part
drive_each-requires-clause-part g c =
    part_kept (task_of _ g.R.Ruler.ruling c.args.task) (code_of c.in-Some.info) (value_at c.in_ok-left.left) (progress_of c.rest_all.new.progress)
    (progress_of c.serve_next.new.progress) c.in_ok-serve_next.ensures.better c.in_ok-left.ensures.part

pub returns-clause-facts : goal.returns-clause-facts
returns-clause-facts g c =
    let k = task_of _ g.R.Ruler.ruling c.args.task in
    let info = c.in-Some.info in
    let code = code_of info in
    let left = value_at c.in_ok-left.left in
    let rested = progress_of c.rest_all.new.progress in
    let served = progress_of c.serve_next.new.progress in
    let driven = progress_of c.drive_each.new.progress in
    let bound = state_bound (g.R.Ruler.ruling c.args.task.ruler.now) c.args.task.bounds.now in
    let good = good_info c.args.task.net.now.nodes bound c.args.number c.args.progress.now c.requires.shape c.args.number info
    (sym c.info.ensures ∙ c.in-Some.is) in
    let later = c.in_ok-drive_each.ensures.better in
    let both = improves_append rested served driven c.in_ok-serve_next.ensures.better later in
    settle k driven code left c.in_ok-drive_each.ensures.facts
    (all_relaxed g.R.Ruler.ruling c.args.task info.node.0 info.state (omega (arith, good.node.1, c.requires.asked.good.nodes)) c.requires.asked driven left
    c.in_ok-drive_each.ensures.relaxed (λ a small. road_kept k code left rested driven _ both (c.in_ok-left.ensures.relaxed a small))
    (λ a small. road_kept k code left served driven _ later (c.in_ok-serve_next.ensures.relaxed a small)))

pub returns-clause-less : goal.returns-clause-less
returns-clause-less g c =
    let info = c.in-Some.info in
    let taken = progress_of c.part_of.new.progress in
    let rested = progress_of c.rest_all.new.progress in
    let served = progress_of c.serve_next.new.progress in
    let driven = progress_of c.drive_each.new.progress in
    let bound = state_bound (g.R.Ruler.ruling c.args.task.ruler.now) c.args.task.bounds.now in
    let good = good_info c.args.task.net.now.nodes bound c.args.number c.args.progress.now c.requires.shape c.args.number info
    (sym c.info.ensures ∙ c.in-Some.is) in
    let better = improves_append taken rested driven c.in_ok-left.ensures.better
    (improves_append rested served driven c.in_ok-serve_next.ensures.better c.in_ok-drive_each.ensures.better) in
    turn_falls g.R.Ruler.ruling c.args.task c.requires.asked (progress_of c.args.progress.now) taken driven (code_of info) (value_at c.in_ok-part.part) 0
    (code_of info) (value_at c.in_ok-left.left) no_part (small_code info c.is_small.ensures (omega (arith, good.node.1, c.requires.asked.good.nodes))) c.requires.facts
    c.in_ok-part.ensures.parts c.in_ok-part.ensures.left better c.in_ok-drive_each.ensures.facts
