use Rattle.std.proofs.Common.{◌≡◌, ◌+◌, sym, ◌∙◌, ap, arith}
use Rattle.label_queue.specs.Keys.{key_at}
use Rattle.ruled_search.proofs.Widened.{no_node, all_done}
use Rattle.ruled_search.proofs.taking.widened.Goals as goal

pub loop-k-init : goal.loop-k-init
loop-k-init c = record {
  room = c.in_ok-wide.ensures.room;
  done = λ n le.
      let none : n ≡ 0 = omega (arith, le) in
      c.in_ok-wide.ensures.empty n ∙ sym (ap (key_at c.args.queue.now) none ∙ no_node c.args.queue.now);
  rest = λ n lt. c.in_ok-wide.ensures.empty n;
}

pub returns-clause-same : goal.returns-clause-same
returns-clause-same c = all_done c.args.queue.now c.loop-k.wide c.loop-k.k c.loop-k.invariant.done c.loop-k.invariant.rest
    (omega (arith, c.loop-k-test.false, c.requires.room))

pub put-requires-clause-high : goal.put-requires-clause-high
put-requires-clause-high c = omega (arith, c.loop-k.invariant.room, c.loop-k-test.true)

pub put-requires-clause-new : goal.put-requires-clause-new
put-requires-clause-new c = c.loop-k.invariant.rest (c.loop-k.k + 1) (omega arith)
