use Rattle.std.proofs.Common.{ℕ, ◌≡◌, ◌+◌, [], List, length, sym, subst, ap, arith}
use Rattle.route_base.specs.Net.{setting_of}
use Rattle.drive_states.specs.declared.rule.Way.{Way}
use Rattle.drive_states.specs.Inside.StateSearch.{IsExploring}
use Rattle.drive_states.proofs.Found.{started, one_long, not_too_large}
use Rattle.drive_states.proofs.exploration.explore.Goals as goal

pub states-init : goal.states-init
states-init c =
    let one = one_long c.args.plan.origin.0 c.in-Ok.states c.in-Ok.ensures in
    record {
      first = omega arith;
      last = omega arith;
      facts = subst (λ (w : List Way). IsExploring (setting_of c.args.plan.net.now) c.args.plan.origin.0 c.args.plan.rule 1 [] c.in-Ok.states w)
          (sym c.new-ways.ensures.items) (started (setting_of c.args.plan.net.now) c.args.plan.origin.0 c.args.plan.rule c.in-Ok.states c.in-Ok.ensures);
      small = omega (arith, one, ap (λ (w : List Way). length w) c.new-ways.ensures.items);
    }

pub states-preserved : goal.states-preserved
states-preserved c = record {
  first = omega arith;
  last = omega (arith, c.in_ok-leave.ensures.last);
  facts = c.in_ok-leave.ensures.facts;
  small = c.in_ok-leave.ensures.small;
}

pub returns-clause-few : goal.returns-clause-few
returns-clause-few c =
    let full : c.states.n ≡ length c.states.states + 1 = omega (arith, c.states.invariant.last, c.states-test.false, c.len.ensures.value) in
    let s = setting_of c.args.plan.net.now in
    not_too_large s c.args.plan.origin.0 c.args.plan.rule c.states.states c.states.ways.items
    (subst (λ (n : ℕ). IsExploring s c.args.plan.origin.0 c.args.plan.rule n [] c.states.states c.states.ways.items) full c.states.invariant.facts)
    c.len.ensures.distinct c.states.invariant.small
