use Rattle.std.proofs.Common.{◌≡◌, true, refl, ◌∙◌, subst}
use Rattle.std.specs.Prelude.{IfSome}
use Rattle.route_base.specs.Runs.{any_has}
use Rattle.cost_functions.specs.Pieces.{value_at}
use Rattle.propagation.specs.Inside.States.{progress_of, task_of}
use Rattle.propagation.proofs.Splitting.{shaped_awaited}
use Rattle.route_base.proofs.Arcs.{takes_time}
use Rattle.propagation.proofs.Taking.{takes_goal, takes_other}
use Rattle.propagation.proofs.turns.take_at.Goals as goal

pub returns-then-h-task-clause-takes : goal.returns-then-h-task-clause-takes
returns-then-h-task-clause-takes c = takes_goal (task_of c.args.task) c.args.h.0 (value_at c.args.offer.now) (any_has c.in_ok-improved.improved)
    (progress_of c.args.progress.now)
    (progress_of (record {
      functions = c.lower_at.new.functions;
      pending = c.args.progress.now.pending;
      pairs = c.add_pairs.new.pairs;
      borders = c.add_pairs.new.borders;
      queue = c.args.progress.now.queue;
    }))
    (takes_time c.args.task.net.now c.requires.asked.good) c.if-h-task.true c.in_ok-improved.ensures.lowered c.in_ok-add_pairs.ensures.takes
    (λ v t. refl)

pub returns-then-h-task-clause-shape : goal.returns-then-h-task-clause-shape
returns-then-h-task-clause-shape c = record {
  functions = c.in_ok-improved.ensures.nodes ∙ c.requires.shape.functions;
  built = c.in_ok-improved.ensures.built;
  pending = c.requires.shape.pending;
  queue = c.requires.shape.queue;
  queued = c.requires.shape.queued;
  waiting = c.requires.shape.waiting;
  borders = c.in_ok-add_pairs.ensures.borders;
}

pub returns-clause-takes : goal.returns-clause-takes
returns-clause-takes c = takes_other (task_of c.args.task) c.args.h.0 (value_at c.args.offer.now) (any_has c.in_ok-improved.improved)
    (progress_of c.args.progress.now)
    (progress_of (record {
      functions = c.lower_at.new.functions;
      pending = c.await_at.new.pending;
      pairs = c.args.progress.now.pairs;
      borders = c.args.progress.now.borders;
      queue =
          c.await_at.new.queue;
    }))
    (λ e. c.if-h-task.false e) c.in_ok-improved.ensures.lowered c.in_ok-await_at.ensures.awaits refl c.requires.trade

pub returns-clause-shape : goal.returns-clause-shape
returns-clause-shape c =
    let some = subst (λ o. IfSome o (λ t. any_has c.in_ok-improved.improved t ≡ true)) c.in-Some.is c.first_of.ensures.some in
    shaped_awaited c.args.task.net.now.nodes c.args.h.0 (any_has c.in_ok-improved.improved) c.args.progress.now
    (record {
      functions = c.lower_at.new.functions;
      pending = c.await_at.new.pending;
      pairs = c.args.progress.now.pairs;
      borders = c.args.progress.now.borders;
      queue = c.await_at.new.queue;
    })
    c.requires.shape c.in_ok-improved.ensures.nodes c.in_ok-improved.ensures.built c.in_ok-await_at.ensures.nodes c.in_ok-await_at.ensures.awaits
    c.in_ok-await_at.ensures.queue (c.in-Some.first, some) c.requires.shape.borders
