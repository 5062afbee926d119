use Rattle.std.proofs.Common.{◌≡◌, ◌+◌, ◌-◌, ℕ, Option, Some, None, List, refl, sym, ◌∙◌, ap, subst, arith}
use Rattle.std.specs.Option.{option_map}
use Rattle.std.specs.Prelude.{if◌then◌else◌}
use Rattle.route_base.specs.Runs.{any_has}
use Rattle.route_base.specs.declared.types.Pair.{Pair}
use Rattle.cost_functions.specs.Building.{AreBuilt}
use Rattle.cost_functions.specs.Pieces.{value_at}
use Rattle.function_merge.proofs.KeptParts.{can_stay, moved_late}
use Rattle.function_merge.specs.Moves.{kept_at, moved_at}
use Rattle.function_merge.specs.Pruning.{IsPruned}
use Rattle.propagation.proofs.Lowering.{value_is}
use Rattle.ruled_states.proofs.Parts.{parts_by_code, left_by_code}
use Rattle.ruled_search.specs.Inside.Tasks.{task_of, state_bound}
use Rattle.ruled_search.proofs.Closing.{latest_by_code}
use Rattle.ruled_search.proofs.Reshaped.{bound_by_code, good_info, has_place, own_number, shaped_again}
use Rattle.ruled_search.proofs.parts.part_of.Goals as goal

-- what is moved by no minute and at no cost stays as it is
same_cost : (o : Option ℕ) → option_map (λ v. v + 0) o ≡ o
same_cost None = refl
same_cost (Some v) = ap Some (omega arith)

stay : (values : ℕ → Option ℕ) (t : ℕ) → moved_at 0 0 values t ≡ values t
stay values t = moved_late 0 0 values t t (omega arith) ∙ same_cost (values t)

pub requeue-requires-clause-high : goal.requeue-requires-clause-high
requeue-requires-clause-high g c =
    (has_place c.args.task.net.now.nodes (state_bound (g.R.Ruler.ruling c.args.task.ruler.now) c.args.task.bounds.now) c.args.number
    c.args.progress.now c.requires.shape c.args.number c.args.info c.requires.info).3

pub shift_and_prune-requires-clause-fit : goal.shift_and_prune-requires-clause-fit
shift_and_prune-requires-clause-fit g c =
    let place = has_place c.args.task.net.now.nodes (state_bound (g.R.Ruler.ruling c.args.task.ruler.now) c.args.task.bounds.now) c.args.number
    c.args.progress.now c.requires.shape c.args.number c.args.info c.requires.info in
    let built = subst AreBuilt (sym c.index-3.ensures)
    (c.requires.shape.built (c.args.number - 1) c.index-3.result.now (omega (arith, place.0, place.1))) in
    can_stay c.index-3.result.now c.in_ok-split.split.taken built.pieces built.small

pub returns-clause-parts : goal.returns-clause-parts
returns-clause-parts g c =
    let task = c.args.task in
    let now = c.args.progress.now in
    let nodes = task.net.now.nodes in
    let bound = state_bound (g.R.Ruler.ruling task.ruler.now) task.bounds.now in
    let few = c.requires.asked.good.nodes in
    let place = has_place nodes bound c.args.number now c.requires.shape c.args.number c.args.info c.requires.info in
    let good = good_info nodes bound c.args.number now c.requires.shape c.args.number c.args.info c.requires.info in
    let own = value_is now.functions.items c.args.number c.index-3.result.now place.0 place.1 c.index-3.ensures in
    let kept = kept_at c.index-3.result.now c.in_ok-split.split.taken in
    let whole = moved_at 0 0 kept in
    parts_by_code (task_of _ g.R.Ruler.ruling task) c.latest_at.result now.table.infos c.args.number c.args.info
    (c.latest_at.ensures ∙ sym (latest_by_code g.R.Ruler.ruling task c.args.info.node.0 c.args.info.state (omega (arith, good.node.1, few)))) c.requires.info
    (own_number nodes bound c.args.number now c.requires.shape few c.args.number c.args.info c.requires.info)
    (bound_by_code bound c.args.info.node.0 c.args.info.state (omega (arith, good.node.1, few)) ∙ good.bound)
    now.functions.items now.pending.items c.split_at.new.pending.items now.pairs.items now.borders.items c.requires.shape.borders
    (any_has c.in_ok-split.split.taken) c.in_ok-split.split.next whole (value_at c.in_ok-part.part) c.in_ok-split.ensures.split
    (λ t. stay kept t ∙ ap (λ o. if any_has c.in_ok-split.split.taken t then o else None) (sym (own t)))
    (subst (λ (w : List Pair). IsPruned c.latest_at.result w c.args.info.bound whole (value_at c.in_ok-part.part))
    c.deref.ensures.value c.in_ok-part.ensures.values)

pub returns-clause-left : goal.returns-clause-left
returns-clause-left g c =
    let now = c.args.progress.now in
    let bound = state_bound (g.R.Ruler.ruling c.args.task.ruler.now) c.args.task.bounds.now in
    let left = left_by_code now.table.infos c.args.number c.args.info (any_has c.in_ok-split.split.taken) c.in_ok-split.split.next now.pending.items
    c.split_at.new.pending.items
    (own_number c.args.task.net.now.nodes bound c.args.number now c.requires.shape c.requires.asked.good.nodes c.args.number c.args.info c.requires.info)
    c.in_ok-split.ensures.split in
    record { minute = left.0; was = left.1; is_no_more = left.2 }

pub returns-clause-shape : goal.returns-clause-shape
returns-clause-shape g c =
    let now = c.args.progress.now in
    shaped_again c.args.task.net.now.nodes (state_bound (g.R.Ruler.ruling c.args.task.ruler.now) c.args.task.bounds.now) c.args.number
    (any_has c.in_ok-split.split.taken) c.in_ok-split.split.next now
    (record {
      table = now.table;
      functions = now.functions;
      pending = c.split_at.new.pending;
      pairs = now.pairs;
      borders = now.borders;
      queue = c.requeue.new.queue;
      room = now.room;
    })
    c.requires.shape c.requires.absent c.in_ok-split.ensures.split c.requeue.ensures refl refl refl refl refl c.in_ok-split.ensures.nodes
