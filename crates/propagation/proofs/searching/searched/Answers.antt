use Rattle.std.proofs.Common.{refl}
use Rattle.propagation.proofs.Blanks.{idle_at_end, shaped_taken}
use Rattle.propagation.proofs.searching.searched.Goals as goal

pub turn-requires-clause-shape : goal.turn-requires-clause-shape
turn-requires-clause-shape c = shaped_taken c.args.task.net.now.nodes c.in-Some.least.0.0 c.in-Some.least.1 c.turns.progress
    (record {
      functions = c.turns.progress.functions;
      pending = c.turns.progress.pending;
      pairs = c.turns.progress.pairs;
      borders = c.turns.progress.borders;
      queue = c.take_least.new.self;
    })
    c.turns.invariant.shape refl refl c.turns.invariant.shape.borders c.in-Some.ensures.some

pub returns-clause-done : goal.returns-clause-done
returns-clause-done c = idle_at_end c.args.task.net.now.nodes c.turns.progress c.turns.invariant.shape (c.in_default.ensures.none refl)

pub turn-requires-clause-some : goal.turn-requires-clause-some
turn-requires-clause-some c = c.turns.invariant.shape.waiting c.in-Some.least.0.0 c.in-Some.least.1 c.in-Some.ensures.some.was
