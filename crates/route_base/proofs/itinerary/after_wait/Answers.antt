use Rattle.std.proofs.Common.{◌≡◌, ◌≤◌, inr, Some, None, IsTrue, sym, ◌∙◌, arith, rules}
use Rattle.std.proofs.Math.Nat.{mul-le-mul_left}
use Rattle.route_base.specs.Net.{setting_of}
use Rattle.route_base.specs.Replay.{position_of}
use Rattle.route_base.proofs.Parks.{weight_small}
use Rattle.route_base.proofs.Waiting.{waits, waits_rated, waits_open, waits_in_time}
use Rattle.route_base.proofs.itinerary.after_wait.Goals as goal
use Rattle.route_base.proofs.itinerary.after_wait.Goals.{then-at-until-via-then-at-until, then-at-until-via-else-at-until+then-minutes-until}

pub returns-in_err-weight-clause-none : goal.returns-in_err-weight-clause-none
returns-in_err-weight-clause-none c = λ _. inr (λ q walk.
    let w = waits_rated (setting_of c.args.net.now) c.args.until c.args.minutes (position_of c.args.at) q (omega arith) walk in
    let bad : None ≡ Some w.0 = sym c.in_err-weight.was ∙ c.weight.ensures.value ∙ w.1 in
    cc)

pub returns-then-at-until-clause-none : goal.returns-then-at-until-clause-none
returns-then-at-until-clause-none c = λ _. inr (λ q walk.
    let late = waits_in_time (setting_of c.args.net.now) c.args.until c.args.minutes (position_of c.args.at) q (omega arith) walk in
    elim c.then-at-until.branch [
      | then-at-until-via-then-at-until w ↦ omega (arith, late, w.if-at-until.true)
      | then-at-until-via-else-at-until+then-minutes-until w ↦ omega (arith, late, w.if-at-until.false, w.if-minutes-until.true)
    ])

pub returns-then-not-is_wait_open-clause-none : goal.returns-then-not-is_wait_open-clause-none
returns-then-not-is_wait_open-clause-none c = λ _. inr (λ q walk.
    let shut = c.if-not-is_wait_open.ensures.1 (waits_open (setting_of c.args.net.now) c.args.until c.args.minutes (position_of c.args.at) q walk) in
    search (rules, shut))

pub returns-clause-some : goal.returns-clause-some
returns-clause-some c =
    let rated : (setting_of c.args.net.now).weight c.args.at.node.0 ≡ Some c.in_ok-weight.weight = sym c.weight.ensures.value
    ∙ c.in_ok-weight.was in
    let opens : IsTrue c.is_wait_open.result = search rules in
    waits (setting_of c.args.net.now) c.args.until c.args.minutes c.args.at.node.0 c.args.at.minute c.args.at.cost c.in_ok-weight.weight
    rated (c.is_wait_open.ensures.0 opens) (omega arith)

pub returns-clause-spot : goal.returns-clause-spot
returns-clause-spot c =
    let rated : (setting_of c.args.net.now).weight c.args.at.node.0 ≡ Some c.in_ok-weight.weight =
    sym c.weight.ensures.value ∙ c.in_ok-weight.was in
    let small = weight_small c.args.net.now c.in_ok-weight.ensures.good c.args.at.node.0 c.in_ok-weight.weight rated in
    let low : c.in_ok-weight.weight ≤ 10000000000 = omega (arith, small) in
    record {
      low = c.requires.spot.low;
      high = c.requires.spot.high;
      early = omega arith;
      cheap = omega (arith, mul-le-mul_left c.args.minutes low, c.requires.spot.cheap);
    }
