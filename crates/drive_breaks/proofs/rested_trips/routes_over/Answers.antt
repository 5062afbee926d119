use Rattle.std.proofs.Common.{◌≡◌, ℕ, List, length, All, sym, ◌∙◌, ap, subst}
use Rattle.std.proofs.lemmas.Result.{IfOk-weaker}
use Rattle.route_base.specs.Front.{IsRight}
use Rattle.route_base.specs.Legs.{CostsFit}
use Rattle.route_base.specs.Net.{Net, setting_of}
use Rattle.route_base.specs.declared.types.Leg.{Leg}
use Rattle.route_base.specs.declared.types.Route.{Route}
use Rattle.drive_states.specs.Inside.StateSearch.{IsExplored}
use Rattle.drive_states.specs.declared.rule.BreakRule.{BreakRule}
use Rattle.drive_states.specs.declared.rule.State.{State}
use Rattle.drive_states.specs.declared.rule.Way.{Way}
use Rattle.drive_breaks.specs.Inside.Unpacking.{IsSourcedRoute, AreUnpacked}
use Rattle.drive_breaks.proofs.BreakFronts.{over_states}
use Rattle.drive_breaks.proofs.GoodStates.{good_over}
use Rattle.drive_breaks.proofs.Routed.{fits_over, sourced_routes, right_breaks}
use Rattle.drive_breaks.proofs.rested_trips.routes_over.Goals as goal

-- a list of all states is explored as they are, and as long
all_explored : (net : Net) (origin : ℕ) (rule : BreakRule) (all states : List State) (ways : List Way) → all ≡ states
    → IsExplored (setting_of net) origin rule states ways → IsExplored (setting_of net) origin rule all ways
all_explored net origin rule all states ways same explored = subst (λ (w : List State). IsExplored (setting_of net) origin rule w ways) (sym same) explored

as_many : (all states : List State) (n : ℕ) → all ≡ states → n ≡ length states → length all ≡ n
as_many all states n same many = ap (λ (w : List State). length w) same ∙ sym many

pub state_net-requires-clause-good : goal.state_net-requires-clause-good
state_net-requires-clause-good g c =
    let explored = all_explored c.args.net.now c.args.request.origin.0 c.args.rule c.as_slice.result.now c.args.explored.states c.args.explored.ways.items
    c.as_slice.ensures c.requires.explored in
    good_over c.args.net.now c.node_count-nodes.ensures.good c.args.rule c.args.request.origin.0 c.args.request.goal.0 c.as_slice.result.now
    c.args.explored.ways.items c.in_ok-built.built.arcs.items c.in_ok-built.built.sources.items explored c.in_ok-built.ensures
    c.requires.rule.rest.0 c.requires.rule.rest.1

pub front-requires-clause-fit : goal.front-requires-clause-fit
front-requires-clause-fit g c =
    let explored = all_explored c.args.net.now c.args.request.origin.0 c.args.rule c.as_slice.result.now c.args.explored.states c.args.explored.ways.items
    c.as_slice.ensures c.requires.explored in
    let many = as_many c.as_slice.result.now c.args.explored.states c.len.result c.as_slice.ensures c.len.ensures.value in
    subst (λ (n : ℕ). CostsFit (setting_of c.in_ok-over.over) (over_states c.args.request n)) many
    (subst (λ (w : Net). CostsFit (setting_of w) (over_states c.args.request (length c.as_slice.result.now))) (sym c.in_ok-over.ensures)
    (fits_over c.args.net.now c.node_count-nodes.ensures.good c.args.request c.requires.good c.args.rule c.as_slice.result.now c.args.explored.ways.items
    explored c.in_ok-built.built.arcs.items c.in_ok-built.built.sources.items c.in_ok-built.ensures
    c.requires.rule.rest.0 c.requires.rule.rest.1 c.requires.cheap c.requires.in_time c.requires.horizon))

pub unpacked_routes-requires : goal.unpacked_routes-requires
unpacked_routes-requires g c =
    let explored = all_explored c.args.net.now c.args.request.origin.0 c.args.rule c.as_slice.result.now c.args.explored.states c.args.explored.ways.items
    c.as_slice.ensures c.requires.explored in
    let many = as_many c.as_slice.result.now c.args.explored.states c.len.result c.as_slice.ensures c.len.ensures.value in
    subst (λ (w : List Leg). All (IsSourcedRoute w) c.as_slice-3.result.now) (sym c.as_slice-2.ensures.value)
    (subst (λ (w : List Route). All (IsSourcedRoute c.in_ok-built.built.sources.items) w) (sym c.as_slice-3.ensures)
    (sourced_routes c.args.net.now c.node_count-nodes.ensures.good c.args.request c.requires.good c.args.rule c.as_slice.result.now
    c.args.explored.ways.items explored c.in_ok-built.built.arcs.items c.in_ok-built.built.sources.items c.in_ok-built.ensures
    c.requires.rule.rest.0 c.requires.rule.rest.1 c.in_ok-routes.routes
    (subst (λ (w : Net). IsRight (setting_of w) (over_states c.args.request (length c.as_slice.result.now)) c.in_ok-routes.routes) c.in_ok-over.ensures
    (subst (λ (n : ℕ). IsRight (setting_of c.in_ok-over.over) (over_states c.args.request n) c.in_ok-routes.routes) (sym many)
    c.in_ok-routes.ensures))))

pub returns : goal.returns
returns g c =
    let explored = all_explored c.args.net.now c.args.request.origin.0 c.args.rule c.as_slice.result.now c.args.explored.states c.args.explored.ways.items
    c.as_slice.ensures c.requires.explored in
    let many = as_many c.as_slice.result.now c.args.explored.states c.len.result c.as_slice.ensures c.len.ensures.value in
    IfOk-weaker c.unpacked_routes.result _ _ (λ out are.
    right_breaks c.args.net.now c.node_count-nodes.ensures.good c.args.request c.requires.good c.args.rule c.as_slice.result.now
    c.args.explored.ways.items explored c.in_ok-built.built.arcs.items c.in_ok-built.built.sources.items c.in_ok-built.ensures
    c.requires.rule.rest.0 c.requires.rule.rest.1 c.requires.away c.in_ok-routes.routes out.items
    (subst (λ (w : Net). IsRight (setting_of w) (over_states c.args.request (length c.as_slice.result.now)) c.in_ok-routes.routes) c.in_ok-over.ensures
    (subst (λ (n : ℕ). IsRight (setting_of c.in_ok-over.over) (over_states c.args.request n) c.in_ok-routes.routes) (sym many)
    c.in_ok-routes.ensures))
    (subst (λ (w : List Leg). AreUnpacked w c.in_ok-routes.routes out.items) c.as_slice-2.ensures.value
    (subst (λ (w : List Route). AreUnpacked c.as_slice-2.result.now w out.items) c.as_slice-3.ensures are)))
    c.unpacked_routes.ensures
