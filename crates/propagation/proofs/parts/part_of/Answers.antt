use Rattle.std.proofs.Common.{◌≡◌, ℕ, ◌+◌, ◌-◌, Option, Some, None, List, refl, sym, ◌∙◌, ap, subst, arith}
use Rattle.std.specs.Option.{option_map}
use Rattle.std.specs.Prelude.{if◌then◌else◌}
use Rattle.route_base.specs.Front.{RiseAndFall}
use Rattle.route_base.specs.Runs.{any_has}
use Rattle.route_base.specs.declared.types.Pair.{Pair}
use Rattle.cost_functions.specs.Building.{AreBuilt}
use Rattle.cost_functions.specs.Pieces.{value_at}
use Rattle.function_merge.proofs.KeptParts.{can_stay, moved_late}
use Rattle.function_merge.specs.Moves.{kept_at, moved_at}
use Rattle.function_merge.specs.Pruning.{IsPruned}
use Rattle.propagation.specs.Inside.States.{progress_of, task_of}
use Rattle.propagation.proofs.Lowering.{value_is}
use Rattle.propagation.proofs.Splitting.{parts_are, shaped_again}
use Rattle.propagation.proofs.parts.part_of.Goals as goal

-- what is moved by no minute and at no cost stays as it is
same_cost : (o : Option ℕ) → option_map (λ v. v + 0) o ≡ o
same_cost None = refl
same_cost (Some v) = ap Some (omega arith)

stay : (values : ℕ → Option ℕ) (t : ℕ) → moved_at 0 0 values t ≡ values t
stay values t = moved_late 0 0 values t t (omega arith) ∙ same_cost (values t)

pub shift_and_prune-requires-clause-fit : goal.shift_and_prune-requires-clause-fit
shift_and_prune-requires-clause-fit c =
    let built = subst AreBuilt (sym c.index-3.ensures)
    (c.requires.shape.built (c.args.v.0 - 1) c.index-3.result.now (omega (arith, c.requires.low, c.requires.high, c.requires.shape.functions))) in
    can_stay c.index-3.result.now c.in_ok-split.split.taken built.pieces built.small

pub shift_and_prune-requires-clause-trade : goal.shift_and_prune-requires-clause-trade
shift_and_prune-requires-clause-trade c = subst RiseAndFall (sym c.deref.ensures.value) c.requires.shape.borders.trade

pub returns-clause-parts : goal.returns-clause-parts
returns-clause-parts c =
    let own = value_is c.args.progress.now.functions.items c.args.v.0 c.index-3.result.now c.requires.low
    (omega (arith, c.requires.high, c.requires.shape.functions)) c.index-3.ensures in
    let kept = kept_at c.index-3.result.now c.in_ok-split.split.taken in
    let whole = moved_at 0 0 kept in
    parts_are (task_of c.args.task) c.args.v.0 c.args.bound c.args.progress.now.borders.items (any_has c.in_ok-split.split.taken) c.in_ok-split.split.next whole
    (value_at c.in_ok-part.part)
    (progress_of c.args.progress.now) (progress_of
    (record {
      functions = c.args.progress.now.functions;
      pending = c.split_at.new.pending;
      pairs = c.args.progress.now.pairs;
      borders = c.args.progress.now.borders;
      queue = c.requeue.new.queue;
    }))
    c.requires.bound (λ u t. refl) refl c.requires.shape.borders c.in_ok-split.ensures.split
    (λ t. stay kept t ∙ ap (λ o. if any_has c.in_ok-split.split.taken t then o else None) (sym (own t)))
    (subst (λ (w : List Pair). IsPruned c.args.task.request.until w c.args.bound whole (value_at c.in_ok-part.part))
    c.deref.ensures.value c.in_ok-part.ensures.values)

pub returns-clause-shape : goal.returns-clause-shape
returns-clause-shape c = shaped_again c.args.task.net.now.nodes c.args.v.0 (any_has c.in_ok-split.split.taken) c.in_ok-split.split.next c.args.progress.now
    (record {
      functions = c.args.progress.now.functions;
      pending = c.split_at.new.pending;
      pairs = c.args.progress.now.pairs;
      borders = c.args.progress.now.borders;
      queue = c.requeue.new.queue;
    })
    c.requires.shape c.requires.absent c.in_ok-split.ensures.split c.requeue.ensures refl c.in_ok-split.ensures.nodes
    c.requires.shape.borders
