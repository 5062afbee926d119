use Rattle.std.proofs.Common.{◌≡◌, ◌+◌, ◌≤◌, ◌-◌, Option, ℕ, List, Some, None, length, set, replicate, refl, sym, ◌∙◌, ap, subst, arith, rules}
use Rattle.route_base.specs.Net.{setting_of}
use Rattle.label_queue.specs.Keys.{key_at}
use Rattle.label_queue.proofs.Places.{is_set, key_none}
use Rattle.potentials.specs.Inside.Summing.{counted_on, most_on, IsWide, unsettled_at}
use Rattle.potentials.proofs.Ending.{begins, goes_to_work, no_zero}
use Rattle.potentials.proofs.Summing.{sums_below}
use Rattle.potentials.proofs.sums.sums_below.Goals as goal

pub turns-init : goal.turns-init
turns-init g c =
    let none : ◌≡◌ {A = List (Option ℕ)} c.in_ok-known.known.items (replicate c.node_count-nodes.result None) = search rules in
    let long : length c.in_ok-known.known.items ≡ c.args.net.now.nodes = search rules in
    let s = is_set c.in_ok-known.known.items c.args.goal.0 (Some 0) c.requires.low (omega (arith, c.requires.high, long)) in
    record {
      nodes = s.room ∙ long;
      room = search rules;
      facts = begins (setting_of c.args.net.now).road (counted_on c.args.counted) c.args.goal.0 c.args.net.now.nodes (most_on c.args.counted) c.args.cap
          (key_at (set c.in_ok-known.known.items (c.args.goal.0 - 1) (Some 0))) (key_at (g.Q.NodeQueue.keys c.put.new.self))
          s.here (λ v ne. s.others v ne ∙ (ap (λ (w : List (Option ℕ)). key_at w v) none ∙ key_none c.node_count-nodes.result v))
          c.in_ok-put.ensures.set.here (λ v ne. c.in_ok-put.ensures.set.others v ne ∙ c.requires.empty v);
      span = c.put.ensures.span;
    }

pub settle-requires-clause-facts : goal.settle-requires-clause-facts
settle-requires-clause-facts g c = (goes_to_work c.args.net.now c.args.counted c.args.goal.0 c.args.cap c.in-Some.least.0.0 c.in-Some.least.1
    c.turns.known.items
    (g.Q.NodeQueue.keys c.turns.queue) (g.Q.NodeQueue.keys c.take_least.new.self) c.node_count-nodes.ensures.good c.turns.invariant.room
    c.turns.invariant.facts c.in-Some.ensures.some).0

pub settle-requires-clause-work : goal.settle-requires-clause-work
settle-requires-clause-work g c = (goes_to_work c.args.net.now c.args.counted c.args.goal.0 c.args.cap c.in-Some.least.0.0 c.in-Some.least.1 c.turns.known.items
    (g.Q.NodeQueue.keys c.turns.queue) (g.Q.NodeQueue.keys c.take_least.new.self) c.node_count-nodes.ensures.good c.turns.invariant.room
    c.turns.invariant.facts c.in-Some.ensures.some).1

pub turns-smaller : goal.turns-smaller
turns-smaller g c =
    let less = (goes_to_work c.args.net.now c.args.counted c.args.goal.0 c.args.cap c.in-Some.least.0.0 c.in-Some.least.1 c.turns.known.items
    (g.Q.NodeQueue.keys c.turns.queue)
    (g.Q.NodeQueue.keys c.take_least.new.self) c.node_count-nodes.ensures.good c.turns.invariant.room c.turns.invariant.facts c.in-Some.ensures.some).2 in
    let more : unsettled_at c.args.net.now c.settle.new.known.items (g.Q.NodeQueue.keys c.settle.new.queue) + 1 ≤ unsettled_at c.args.net.now
    c.turns.known.items (g.Q.NodeQueue.keys c.turns.queue) =
    omega (arith, less, c.in_ok-settle.ensures.less) in
    omega (arith, more)

pub returns-clause-least : goal.returns-clause-least
returns-clause-least g c v = sums_below (setting_of c.args.net.now).road (counted_on c.args.counted) c.args.goal.0 c.args.net.now.nodes
    (most_on c.args.counted) c.args.cap
    (key_at c.turns.known.items) (key_at (g.Q.NodeQueue.keys c.turns.queue)) (no_zero c.args.net.now c.node_count-nodes.ensures.good) c.turns.invariant.facts
    (c.in_default.ensures.none refl) v

pub settle-requires-clause-wide : goal.settle-requires-clause-wide
settle-requires-clause-wide g c =
    subst (λ n. IsWide c.args.net.now c.args.counted c.args.cap n) (sym (c.take_least.ensures.span ∙ c.turns.invariant.span)) c.requires.wide
