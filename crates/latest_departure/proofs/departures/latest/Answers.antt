use Rattle.std.proofs.Common.{ℕ, ◌+◌, ◌-◌, ◌≤◌, All, List, map, sym, ◌∙◌, ap, subst}
use Rattle.std.proofs.lemmas.Result.{IfOk-weaker}
use Rattle.latest_departure.specs.LateFront.{AreRightLate}
use Rattle.latest_departure.specs.Inside.Mirror.{late_of}
use Rattle.route_base.specs.Net.{setting_of}
use Rattle.route_base.specs.Front.{IsRight}
use Rattle.route_base.specs.Legs.{CostsFit}
use Rattle.route_base.specs.declared.types.Request.{Request}
use Rattle.route_base.specs.declared.types.Route.{Route}
use Rattle.latest_departure.proofs.LateFronts.{right_late, arrives_in_time, mirrored_fits}
use Rattle.latest_departure.proofs.departures.latest.Goals as goal

request_of : ℕ → Request → Request
request_of nodes r = record { origin = record { 0 = nodes + 1 }; goal = r.origin; depart = 0; until = r.until + 1 - r.depart }

pub front-requires-clause-fit : goal.front-requires-clause-fit
unfolding request_of
front-requires-clause-fit g c =
    subst (λ (n : ℕ). CostsFit (setting_of c.in_ok-mirrored.mirrored) (request_of n c.args.request)) (sym c.node_count.ensures.value)
    (mirrored_fits c.args.net.now c.node_count.ensures.good c.args.request c.requires.good c.requires.in_time
    c.in_ok-mirrored.mirrored c.in_ok-mirrored.ensures c.requires.cheap c.requires.horizon)

pub late_routes-requires : goal.late_routes-requires
unfolding request_of
late_routes-requires g c = record {
  early = subst (λ (w : List Route). All (λ x. x.pair.arrival ≤ c.args.request.until + 1) w) (sym c.as_slice.ensures)
      (arrives_in_time c.args.net.now c.node_count.ensures.good c.args.request c.requires.good c.requires.in_time
      c.in_ok-mirrored.mirrored c.in_ok-mirrored.ensures c.in_ok-routes.routes
      (subst (λ (n : ℕ). IsRight (setting_of c.in_ok-mirrored.mirrored) (request_of n c.args.request) c.in_ok-routes.routes) c.node_count.ensures.value
      c.in_ok-routes.ensures));
}

pub returns : goal.returns
unfolding request_of
returns g c =
    IfOk-weaker c.late_routes.result _ _
    (λ out is. subst (AreRightLate (setting_of c.args.net.now) c.args.request)
    (sym (is ∙ ap (map (late_of c.args.net.now c.args.request.goal (c.args.request.until + 1))) c.as_slice.ensures))
    (right_late c.args.net.now c.node_count.ensures.good c.args.request c.requires.good c.requires.in_time
    c.in_ok-mirrored.mirrored c.in_ok-mirrored.ensures c.in_ok-routes.routes
    (subst (λ (n : ℕ). IsRight (setting_of c.in_ok-mirrored.mirrored) (request_of n c.args.request) c.in_ok-routes.routes) c.node_count.ensures.value
    c.in_ok-routes.ensures)))
    c.late_routes.ensures
