use Rattle.std.proofs.Common.{refl}
use Rattle.propagation.proofs.Blanks.{idle_by}
use Rattle.ruled_states.specs.Inside.Tables.{number_in}
use Rattle.ruled_search.specs.Inside.Tasks.{state_bound}
use Rattle.ruled_search.proofs.Reshaped.{shaped_taken}
use Rattle.ruled_search.proofs.Turning.{pending_number}
use Rattle.ruled_search.proofs.searching.searched.Goals as goal

pub turn-requires-clause-shape : goal.turn-requires-clause-shape
turn-requires-clause-shape g c =
    let now = c.turns.progress in
    shaped_taken c.args.task.net.now.nodes (state_bound (g.R.Ruler.ruling c.args.task.ruler.now) c.args.task.bounds.now) c.in-Some.least.0.0
    c.in-Some.least.1 now
    (record {
      table = now.table;
      functions = now.functions;
      pending = now.pending;
      pairs = now.pairs;
      borders = now.borders;
      queue = c.take_least.new.self;
      room = now.room;
    })
    c.turns.invariant.shape refl refl refl refl refl refl c.in-Some.ensures.some

pub turn-requires-clause-low : goal.turn-requires-clause-low
turn-requires-clause-low g c =
    let some = c.turns.invariant.shape.waiting c.in-Some.least.0.0 c.in-Some.least.1 c.in-Some.ensures.some.was in
    (pending_number c.turns.progress.pending.items c.in-Some.least.0.0 some.0 some.1).0

pub turn-requires-clause-high : goal.turn-requires-clause-high
turn-requires-clause-high g c =
    let some = c.turns.invariant.shape.waiting c.in-Some.least.0.0 c.in-Some.least.1 c.in-Some.ensures.some.was in
    (pending_number c.turns.progress.pending.items c.in-Some.least.0.0 some.0 some.1).1

pub turn-requires-clause-some : goal.turn-requires-clause-some
turn-requires-clause-some g c = c.turns.invariant.shape.waiting c.in-Some.least.0.0 c.in-Some.least.1 c.in-Some.ensures.some.was

pub returns-clause-done : goal.returns-clause-done
returns-clause-done g c = λ code t. idle_by c.turns.progress.pending.items c.turns.progress.queue c.turns.invariant.shape.queued
    (c.in_default.ensures.none refl) (number_in c.turns.progress.table.infos code) t
