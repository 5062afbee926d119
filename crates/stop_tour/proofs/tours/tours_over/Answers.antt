use Rattle.std.proofs.Common.{◌≡◌, ℕ, suc, ◌+◌, ◌*◌, List, length, map, All, sym, ◌∙◌, ap, subst, arith}
use Rattle.std.proofs.lemmas.Result.{IfOk-weaker}
use Rattle.route_base.specs.Front.{IsRight}
use Rattle.route_base.specs.Legs.{CostsFit}
use Rattle.route_base.specs.Net.{Net, setting_of}
use Rattle.route_base.specs.Relaxing.{AreBounds}
use Rattle.route_base.specs.declared.types.Request.{Request}
use Rattle.route_base.specs.declared.types.Route.{Route}
use Rattle.potentials.specs.Sums.{bound_at}
use Rattle.stop_tour.specs.Tours.{AreRightTours}
use Rattle.stop_tour.specs.Inside.Unlayering.{route_over, IsNumbered}
use Rattle.stop_tour.specs.declared.stops.Stop.{Stop}
use Rattle.stop_tour.proofs.LayerBounds.{tour_bounds_hold, tour_bounds_long}
use Rattle.stop_tour.proofs.MadeTour.{tour_fits, routes_numbered}
use Rattle.stop_tour.proofs.TourFronts.{right_tours}
use Rattle.stop_tour.proofs.tours.tours_over.Goals as goal

trip : ℕ → List Stop → Request → Request
trip nodes stops r = record { origin = r.origin; goal = record { 0 = length stops * nodes + r.goal.0 }; depart = r.depart; until = r.until }

pub front_with-requires-clause-fit : goal.front_with-requires-clause-fit
unfolding trip
front_with-requires-clause-fit g c =
    let net : Net = c.args.net.now in
    subst (λ (n : ℕ). CostsFit (setting_of c.in_ok-layered.layered) (trip n c.args.stops.now c.args.request)) (sym c.node_count.ensures.value)
    (subst (λ (w : Net). CostsFit (setting_of w) (trip net.nodes c.args.stops.now c.args.request)) (sym c.in_ok-layered.ensures)
    (tour_fits net c.node_count.ensures.good c.args.stops.now c.requires.stops c.args.request
    (omega (arith, c.requires.good.origin.0, c.requires.good.origin.1))
    c.requires.size c.requires.cheap c.requires.in_time c.requires.horizon))

pub front_with-requires-clause-bounds : goal.front_with-requires-clause-bounds
front_with-requires-clause-bounds g c =
    let net : Net = c.args.net.now in
    let goes : ℕ = c.args.request.goal.0 in
    subst (λ (n : ℕ). AreBounds (setting_of c.in_ok-layered.layered) (length c.args.stops.now * n + goes) (bound_at c.in_ok-bounds.bounds))
    (sym c.node_count.ensures.value)
    (subst (λ (w : Net). AreBounds (setting_of w) (length c.args.stops.now * net.nodes + goes) (bound_at c.in_ok-bounds.bounds)) (sym c.in_ok-layered.ensures)
    (tour_bounds_hold net c.node_count.ensures.good c.args.stops.now c.requires.stops c.args.request.until goes c.requires.good.goal.0 c.requires.good.goal.1
    c.in_ok-bounds.bounds c.in_ok-bounds.ensures))

pub front_with-requires-clause-bounded : goal.front_with-requires-clause-bounded
front_with-requires-clause-bounded g c =
    tour_bounds_long c.args.net.now c.node_count.ensures.good c.args.stops.now c.requires.stops c.args.request.until c.args.request.goal.0
    c.requires.good.goal.0 c.requires.good.goal.1 c.in_ok-bounds.bounds c.in_ok-bounds.ensures
    ∙ ap (λ (w : Net). w.nodes) (sym c.in_ok-layered.ensures)

pub tour_routes-requires-clause-numbered : goal.tour_routes-requires-clause-numbered
tour_routes-requires-clause-numbered g c =
    subst (λ (w : List Route). All (λ x. All IsNumbered x.legs) w) (sym c.as_slice.ensures)
    (routes_numbered c.in_ok-layered.layered _ c.in_ok-routes.routes c.in_ok-routes.ensures)

pub returns : goal.returns
unfolding trip
returns g c =
    let net : Net = c.args.net.now in
    let next : length c.args.stops.now + 1 ≡ suc (length c.args.stops.now) = omega arith in
    IfOk-weaker c.tour_routes.result _ _ (λ out is.
    subst (AreRightTours (setting_of net) c.args.request c.args.stops.now)
    (sym (is ∙ ap (map (route_over c.arc_count.result (length c.args.stops.now + 1))) c.as_slice.ensures
    ∙ ap (λ (k : ℕ). map (route_over k (length c.args.stops.now + 1)) c.in_ok-routes.routes) c.arc_count.ensures.value
    ∙ ap (λ (k : ℕ). map (route_over (length net.arcs) k) c.in_ok-routes.routes) next))
    (right_tours net c.node_count.ensures.good c.args.stops.now c.requires.stops c.args.request c.requires.good c.in_ok-routes.routes
    (subst (λ (w : Net). IsRight (setting_of w) (trip net.nodes c.args.stops.now c.args.request) c.in_ok-routes.routes) c.in_ok-layered.ensures
    (subst (λ (n : ℕ). IsRight (setting_of c.in_ok-layered.layered) (trip n c.args.stops.now c.args.request) c.in_ok-routes.routes) c.node_count.ensures.value
    c.in_ok-routes.ensures))))
    c.tour_routes.ensures
