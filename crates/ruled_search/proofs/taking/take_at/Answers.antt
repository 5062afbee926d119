use Rattle.std.proofs.Common.{◌≡◌, true, refl, sym, ◌∙◌, subst, arith}
use Rattle.std.specs.Prelude.{IfSome, IsNone}
use Rattle.route_base.specs.Runs.{any_has}
use Rattle.route_base.proofs.Numbered.{number_within}
use Rattle.cost_functions.specs.Pieces.{value_at}
use Rattle.propagation.specs.Found.{cost_at}
use Rattle.propagation.specs.Inside.States.{is_pending}
use Rattle.state_dominance.specs.Inside.Product.{code}
use Rattle.ruled_states.specs.Inside.Codes.{base}
use Rattle.ruled_search.specs.Inside.Tasks.{progress_of, state_bound, task_of}
use Rattle.ruled_search.proofs.Placed.{small_nodes}
use Rattle.ruled_search.proofs.Shapes.{shaped_awaited, shaped_lowered}
use Rattle.ruled_search.proofs.TakenOffers.{awaited_at, lowered_at, nothing_awaited, takes_goal, takes_other}
use Rattle.ruled_search.proofs.taking.take_at.Goals as goal

pub returns-then-is_goal-clause-takes : goal.returns-then-is_goal-clause-takes
returns-then-is_goal-clause-takes g c =
    let old = c.args.progress.now in
    let infos = old.table.infos in
    let info = c.args.info in
    let task = c.args.task in
    let small = small_nodes task.net.now.nodes (state_bound (g.R.Ruler.ruling task.ruler.now) task.bounds.now) infos c.requires.asked.good.nodes
    c.requires.shape.infos in
    takes_goal (task_of _ g.R.Ruler.ruling task) (code base info.node.0 info.state) (value_at c.args.offer.now) (any_has c.in_ok-improved.improved)
    (progress_of old) _ (sym c.is_goal.ensures ∙ c.if-is_goal.true)
    (lowered_at infos info.node.0 info.state c.args.number c.requires.state small c.requires.shape.distinct (value_at c.args.offer.now)
    (any_has c.in_ok-improved.improved) (cost_at old.functions.items) (cost_at c.lower_at.new.functions.items) c.in_ok-improved.ensures.lowered)
    c.in_ok-add_pairs.ensures.takes (λ v t. refl)

pub returns-then-is_goal-clause-shape : goal.returns-then-is_goal-clause-shape
returns-then-is_goal-clause-shape g c = shaped_lowered _ _ c.args.progress.now _ c.requires.shape c.in_ok-improved.ensures.nodes
    c.in_ok-improved.ensures.built c.in_ok-add_pairs.ensures.borders refl refl refl refl refl

pub returns-in_default-clause-takes : goal.returns-in_default-clause-takes
returns-in_default-clause-takes g c =
    let old = c.args.progress.now in
    let infos = old.table.infos in
    let info = c.args.info in
    let task = c.args.task in
    let small = small_nodes task.net.now.nodes (state_bound (g.R.Ruler.ruling task.ruler.now) task.bounds.now) infos c.requires.asked.good.nodes
    c.requires.shape.infos in
    let better = any_has c.in_ok-improved.improved in
    takes_other (task_of _ g.R.Ruler.ruling task) (code base info.node.0 info.state) (value_at c.args.offer.now) better (progress_of old) _
    (sym c.is_goal.ensures ∙ c.if-is_goal.false)
    (lowered_at infos info.node.0 info.state c.args.number c.requires.state small c.requires.shape.distinct (value_at c.args.offer.now) better
    (cost_at old.functions.items) (cost_at c.lower_at.new.functions.items) c.in_ok-improved.ensures.lowered)
    (nothing_awaited (code base info.node.0 info.state) better (progress_of old).pending (c.first_of.ensures.none (subst IsNone (sym c.in_default.is) refl)))
    refl c.requires.trade

pub returns-in_default-clause-shape : goal.returns-in_default-clause-shape
returns-in_default-clause-shape g c = shaped_lowered _ _ c.args.progress.now _ c.requires.shape c.in_ok-improved.ensures.nodes
    c.in_ok-improved.ensures.built c.requires.shape.borders refl refl refl refl refl

pub returns-clause-takes : goal.returns-clause-takes
returns-clause-takes g c =
    let old = c.args.progress.now in
    let infos = old.table.infos in
    let info = c.args.info in
    let task = c.args.task in
    let small = small_nodes task.net.now.nodes (state_bound (g.R.Ruler.ruling task.ruler.now) task.bounds.now) infos c.requires.asked.good.nodes
    c.requires.shape.infos in
    let better = any_has c.in_ok-improved.improved in
    takes_other (task_of _ g.R.Ruler.ruling task) (code base info.node.0 info.state) (value_at c.args.offer.now) better (progress_of old) _
    (sym c.is_goal.ensures ∙ c.if-is_goal.false)
    (lowered_at infos info.node.0 info.state c.args.number c.requires.state small c.requires.shape.distinct (value_at c.args.offer.now) better
    (cost_at old.functions.items) (cost_at c.lower_at.new.functions.items) c.in_ok-improved.ensures.lowered)
    (awaited_at infos info.node.0 info.state c.args.number c.requires.state small c.requires.shape.distinct better
    (is_pending old.pending.items) (is_pending c.await_at.new.pending.items) c.in_ok-await_at.ensures.awaits)
    refl c.requires.trade

pub returns-clause-shape : goal.returns-clause-shape
returns-clause-shape g c =
    let some = subst (λ o. IfSome o (λ t. any_has c.in_ok-improved.improved t ≡ true)) c.in-Some.is c.first_of.ensures.some in
    shaped_awaited _ _ c.args.progress.now _ c.requires.shape c.args.number (any_has c.in_ok-improved.improved) c.in_ok-improved.ensures.nodes
    c.in_ok-improved.ensures.built refl refl refl c.requires.shape.borders c.in_ok-await_at.ensures.nodes c.in_ok-await_at.ensures.awaits
    c.in_ok-await_at.ensures.queue (c.in-Some.first, some)

pub await_at-requires-clause-high : goal.await_at-requires-clause-high
await_at-requires-clause-high g c =
    let here = number_within c.args.progress.now.table.infos c.args.number c.requires.state.info c.requires.state.at in
    omega (arith, here.1, c.requires.shape.pending)
