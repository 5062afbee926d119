use Rattle.std.proofs.Common.{◌≡◌, ◌*◌, Option, Some, None, ◌∙◌, ap, subst}
use Rattle.std.specs.Option.{option_map}
use Rattle.std.specs.Prelude.{unwrap_or}
use Rattle.std.proofs.lemmas.List.{length-map}
use Rattle.route_base.specs.declared.limits.TheConstants.{COST_OF_MINUTE}
use Rattle.route_base.specs.declared.types.Bound.{Bound}
use Rattle.potentials.specs.Inside.Summing.{AreSumsBelow}
use Rattle.potentials.specs.declared.bounds.TheConstants.{UNCAPPED}
use Rattle.potentials.specs.declared.sums.Counted.TheVariants.{Minutes, Cost}
use Rattle.potentials.proofs.InProportion.{cap_or_last, up_to_cap, minutes_to, costs_to, have_costs}
use Rattle.potentials.proofs.bounds.sums_to.Goals as goal

minutes_cap : (caps : Option Bound) (most : Bound) → most ≡ unwrap_or caps UNCAPPED → most.minutes ≡ cap_or_last (option_map (λ b. b.minutes) caps)
minutes_cap None most is = ap (λ (b : Bound). b.minutes) is
minutes_cap (Some caps) most is = ap (λ (b : Bound). b.minutes) is

cost_cap : (caps : Option Bound) (most : Bound) → most ≡ unwrap_or caps UNCAPPED → most.cost ≡ cap_or_last (option_map (λ b. b.cost) caps)
cost_cap None most is = ap (λ (b : Bound). b.cost) is
cost_cap (Some caps) most is = ap (λ (b : Bound). b.cost) is

pub returns-then-proportional-clause-sums : goal.returns-then-proportional-clause-sums
returns-then-proportional-clause-sums c =
    let net = c.args.net.now in
    let found = c.in_ok-minutes.ensures in
    let minutes = c.in_ok-minutes.minutes.items in
    let cap = c.cap_for_both.result in
    record {
      minutes_nodes = found.nodes;
      costs_nodes = length-map minutes (option_map (λ x. COST_OF_MINUTE * x)) ∙ found.nodes;
      fit = have_costs net minutes found.good found.small;
      minutes = minutes_to net c.args.goal.0 found.good cap minutes found.least c.args.caps c.cap_for_both.ensures;
      costs = costs_to net c.args.goal.0 found.good cap minutes found.least (c.requires.proportional c.if-proportional.true) c.args.caps
          c.cap_for_both.ensures;
    }

pub returns-clause-sums : goal.returns-clause-sums
returns-clause-sums c =
    let net = c.args.net.now in
    let found = c.in_ok-minutes-2.ensures in
    let minutes = c.in_ok-minutes-2.minutes.items in
    let costs = c.in_ok-costs.costs.items in
    let caps = c.args.caps in
    let most = c.unwrap_or-most.result in
    record {
      minutes_nodes = found.nodes;
      costs_nodes = c.in_ok-costs.ensures.nodes;
      fit = have_costs net minutes found.good found.small;
      minutes = up_to_cap net Minutes c.args.goal.0 (option_map (λ b. b.minutes) caps) minutes found.good
          (subst (λ n. AreSumsBelow net Minutes c.args.goal.0 n minutes) (minutes_cap caps most c.unwrap_or-most.ensures) found.least);
      costs = up_to_cap net Cost c.args.goal.0 (option_map (λ b. b.cost) caps) costs found.good
          (subst (λ n. AreSumsBelow net Cost c.args.goal.0 n costs) (cost_cap caps most c.unwrap_or-most.ensures) c.in_ok-costs.ensures.least);
    }
