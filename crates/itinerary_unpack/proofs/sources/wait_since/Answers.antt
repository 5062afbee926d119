use Rattle.std.proofs.Common.{◌≡◌, ◌-◌, ◌*◌, ◌≤◌, Option, ℕ, Some, IsTrue, sym, ◌∙◌, arith, rules}
use Rattle.std.proofs.Math.Nat.{mul-le-mul_left}
use Rattle.route_base.specs.Net.{setting_of}
use Rattle.route_base.specs.declared.limits.TheConstants.{HEAVIEST_WEIGHT}
use Rattle.route_base.proofs.Parks.{weight_small}
use Rattle.propagation.specs.Found.{cost_at}
use Rattle.itinerary_unpack.proofs.Backwards.{cost_is, small_cost}
use Rattle.itinerary_unpack.proofs.Sourcing.{comes_by_wait}
use Rattle.itinerary_unpack.proofs.sources.wait_since.Goals as goal

pub overflow_add-before : goal.overflow_add-before
overflow_add-before c =
    let found = c.args.solved.found.now in
    let minutes = c.args.t - c.args.since in
    let weight = c.in_ok-weight.weight in
    let known : cost_at found.functions c.args.v.0 c.args.since ≡ Some c.in_ok-before.before =
    cost_is found.functions c.args.v.0 c.args.since c.function.result.now c.function.ensures ∙ (sym c.at.ensures ∙ c.in_ok-before.was) in
    let small = small_cost c.args.solved.net.now c.args.solved.request found c.requires.solved.fit c.requires.solved.found c.args.v.0 c.args.since
    c.in_ok-before.before known in
    let rated : ◌≡◌ {A = Option ℕ} ((setting_of c.args.solved.net.now).weight c.args.v.0) (Some weight) = sym c.weight.ensures.value ∙ c.in_ok-weight.was in
    let cheap : weight ≤ HEAVIEST_WEIGHT = weight_small c.args.solved.net.now c.weight.ensures.good c.args.v.0 weight rated in
    let most : minutes * weight ≤ minutes * HEAVIEST_WEIGHT = mul-le-mul_left minutes cheap in
    omega (arith, small, most, c.requires.upto, c.requires.solved.ends.until)

pub returns-clause-some : goal.returns-clause-some
returns-clause-some c =
    let found = c.args.solved.found.now in
    let known : cost_at found.functions c.args.v.0 c.args.since ≡ Some c.in_ok-before.before =
    cost_is found.functions c.args.v.0 c.args.since c.function.result.now c.function.ensures ∙ (sym c.at.ensures ∙ c.in_ok-before.was) in
    let rated : ◌≡◌ {A = Option ℕ} ((setting_of c.args.solved.net.now).weight c.args.v.0) (Some c.in_ok-weight.weight) = sym c.weight.ensures.value
    ∙ c.in_ok-weight.was in
    let opens : IsTrue c.is_wait_open.result = search rules in
    comes_by_wait (setting_of c.args.solved.net.now) c.args.solved.request.until
    (cost_at found.functions) c.args.v c.args.t c.args.x c.args.since c.in_ok-before.before c.in_ok-weight.weight
    (omega (arith, c.if-since-t.false)) c.requires.upto rated (c.is_wait_open.ensures.0 opens) known (omega (arith, c.if-before-weight.false))
