use Rattle.std.proofs.Common.{◌≡◌, ◌-◌, IsTrue, Some, refl, sym, ◌∙◌, arith, rules}
use Rattle.route_base.specs.Net.{at_number}
use Rattle.propagation.specs.Found.{cost_at}
use Rattle.potentials.proofs.Ending.{head_of}
use Rattle.itinerary_unpack.proofs.Backwards.{cost_is, small_cost}
use Rattle.itinerary_unpack.proofs.Sourcing.{comes_by_drive}
use Rattle.itinerary_unpack.proofs.sources.drive_into.Goals as goal

pub overflow_add-before : goal.overflow_add-before
overflow_add-before c =
    let found = c.args.solved.found.now in
    let minute = c.args.t - c.in_ok-arc.arc.minutes in
    let known : cost_at found.functions c.in_ok-arc.arc.tail.0 minute ≡ Some c.in_ok-before.before =
    cost_is found.functions c.in_ok-arc.arc.tail.0 minute c.function.result.now c.function.ensures ∙ (sym c.at.ensures ∙ c.in_ok-before.was) in
    let small = small_cost c.args.solved.net.now c.args.solved.request found c.requires.solved.fit c.requires.solved.found c.in_ok-arc.arc.tail.0 minute
    c.in_ok-before.before known in
    omega (arith, small, c.in_ok-arc.ensures.good.cost)

pub returns-clause-some : goal.returns-clause-some
returns-clause-some c =
    let found = c.args.solved.found.now in
    let minute = c.args.t - c.in_ok-arc.arc.minutes in
    let is = sym c.arc.ensures.value ∙ c.in_ok-arc.was in
    let known : cost_at found.functions c.in_ok-arc.arc.tail.0 minute ≡ Some c.in_ok-before.before =
    cost_is found.functions c.in_ok-arc.arc.tail.0 minute c.function.result.now c.function.ensures ∙ (sym c.at.ensures ∙ c.in_ok-before.was) in
    let free : IsTrue c.is_open.result = search rules in
    comes_by_drive c.args.solved.net.now c.args.solved.request.until c.args.a.0 c.args.v.0 c.args.t c.in_ok-arc.arc is _ refl
    (head_of (at_number c.args.solved.net.now.arcs c.args.a.0) c.in_ok-arc.arc c.args.v.0 is c.requires.ends)
    (omega (arith, c.in_ok-arc.ensures.good.minutes)) (omega (arith, c.if-arc-t.false)) c.requires.upto
    (cost_at found.functions) c.args.x c.in_ok-before.before known (omega (arith, c.if-before-arc.false)) (c.is_open.ensures.0 free)
