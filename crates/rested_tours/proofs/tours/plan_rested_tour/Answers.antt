use Rattle.std.proofs.Common.{List, All, map, sym, ◌∙◌, ap, subst, arith}
use Rattle.std.specs.List.{AllZip}
use Rattle.route_base.specs.Net.{setting_of}
use Rattle.ruled_search.specs.Routes.{IsPlanned}
use Rattle.ruled_search.specs.declared.routes.RuledRoute.{RuledRoute}
use Rattle.ruled_states.specs.Inside.Codes.{base}
use Rattle.ruled_states.specs.Inside.Services.{service_at}
use Rattle.state_dominance.specs.Inside.Product.{IsBase, Service as ServiceAt}
use Rattle.state_dominance.specs.OneRule.{one_rule}
use Rattle.state_dominance.specs.Serving.{serving}
use Rattle.state_dominance.proofs.OneRuled.{first_best, small_states}
use Rattle.rested_tours.specs.Inside.ToldRoutes.{IsTellableRoute, IsToldBy}
use Rattle.rested_tours.proofs.Based.{based, cheap_roads}
use Rattle.rested_tours.proofs.RightTours.{are_tellable, right_tours}
use Rattle.rested_tours.proofs.StopsBase.{as_many, asked_of}
use Rattle.rested_tours.proofs.tours.plan_rested_tour.Goals as goal

pub invariant_of-ruler : goal.invariant_of-ruler
invariant_of-ruler c = record {
  small = small_states c.args.rule.drive c.args.rule.rest (omega (arith, c.requires.rule.drive));
  first = first_best c.args.rule.drive c.args.rule.rest;
  few = omega (
    arith,
    as_many c.as_slice.result.now c.args.stops.now
        (ap (map service_at) c.as_slice.ensures.value ∙ c.in_ok-services.ensures),
    c.requires.count,
  );
}

pub plan_ruled-requires-clause-fit : goal.plan_ruled-requires-clause-fit
plan_ruled-requires-clause-fit c =
    c.ruled_costs_fit.ensures c.args.net.now
    (serving (map service_at c.as_slice.result.now) (one_rule c.args.rule.drive c.args.rule.rest)) base c.args.request
    c.node_count-nodes.ensures.good (cheap_roads c.args.net.now c.requires.cheap) c.requires.in_time (omega (arith, c.requires.horizon))

pub plan_ruled-requires-clause-numbers : goal.plan_ruled-requires-clause-numbers
plan_ruled-requires-clause-numbers c =
    let same = ap (map service_at) c.as_slice.ensures.value ∙ c.in_ok-services.ensures in
    subst (λ (w : List ServiceAt). IsBase (setting_of c.args.net.now) (serving w (one_rule c.args.rule.drive c.args.rule.rest)) base) (sym same)
    (based c.args.net.now c.args.request c.args.stops.now c.args.rule
    (asked_of c.node_count-nodes.ensures.good c.requires.good c.requires.in_time c.requires.stops c.requires.count)
    c.requires.rule)

pub told_routes-requires : goal.told_routes-requires
told_routes-requires c =
    let same = ap (map service_at) c.as_slice.ensures.value ∙ c.in_ok-services.ensures in
    subst (All (IsTellableRoute c.args.rule.rest)) (sym c.as_slice-2.ensures.value)
    (are_tellable c.args.net.now c.args.request c.args.stops.now c.args.rule
    (asked_of c.node_count-nodes.ensures.good c.requires.good c.requires.in_time c.requires.stops c.requires.count)
    c.requires.rule c.in_ok-over.over.items
    (subst (λ (w : List ServiceAt). IsPlanned (setting_of c.args.net.now) (serving w (one_rule c.args.rule.drive c.args.rule.rest)) base c.args.request
    c.in_ok-over.over.items) same c.in_ok-over.ensures.planned))

pub returns : goal.returns
returns c =
    let same = ap (map service_at) c.as_slice.ensures.value ∙ c.in_ok-services.ensures in
    right_tours c.args.net.now c.args.request c.args.stops.now c.args.rule
    (asked_of c.node_count-nodes.ensures.good c.requires.good c.requires.in_time c.requires.stops c.requires.count)
    c.requires.rule c.in_ok-over.over.items
    (subst (λ (w : List ServiceAt). IsPlanned (setting_of c.args.net.now) (serving w (one_rule c.args.rule.drive c.args.rule.rest)) base c.args.request
    c.in_ok-over.over.items) same c.in_ok-over.ensures.planned)
    c.in_ok-tours.tours
    (subst (λ (w : List RuledRoute). AllZip (IsToldBy c.args.rule.rest) w c.in_ok-tours.tours) c.as_slice-2.ensures.value c.in_ok-tours.ensures)
