use Rattle.std.proofs.Common.{◌≡◌, ◌++◌, ◌∷◌, [], List, get_or, take, sym, subst, arith, rules}
use Rattle.std.specs.List.{AllZip}
use Rattle.std.proofs.lemmas.List.{take_all, take_more}
use Rattle.ruled_search.specs.declared.routes.RuledRoute.{RuledRoute}
use Rattle.stop_tour.specs.declared.stops.TourRoute.{TourRoute}
use Rattle.rested_tours.specs.Inside.ToldRoutes.{IsTellableRoute, IsToldBy}
use Rattle.rested_tours.proofs.ToldRoutes.{zip_push}
use Rattle.rested_tours.proofs.told_routes.told_routes.Goals as goal

pub told_route-requires : goal.told_route-requires
told_route-requires c =
    subst (IsTellableRoute c.args.rest) (sym c.route-item.is) (c.requires c.loop-route.route-index c.route-item.result c.loop-route-test.true)

pub loop-route-preserved : goal.loop-route-preserved
loop-route-preserved c =
    let told = IsToldBy c.args.rest in
    let grown : c.push.new.self.items ≡ c.loop-route.out.items ++ c.in_ok-tour.tour ∷ [] = search rules in
    let routes : List RuledRoute = c.args.routes.now in
    let i = c.loop-route.route-index in
    let item : RuledRoute = get_or routes i c.route-item.result in
    subst (λ (w : List RuledRoute). AllZip told w c.push.new.self.items) (sym (take_more routes i c.route-item.result c.loop-route-test.true))
    (subst (λ (w : List TourRoute). AllZip told (take i routes ++ item ∷ []) w) (sym grown)
    (zip_push told (take i routes) c.loop-route.out.items item c.in_ok-tour.tour c.loop-route.invariant
    (subst (λ (w : RuledRoute). told w c.in_ok-tour.tour) c.route-item.is c.in_ok-tour.ensures)))

pub returns : goal.returns
returns c =
    subst (AllZip (IsToldBy c.args.rest) c.args.routes.now) (sym c.from_vec.ensures)
    (subst (λ (w : List RuledRoute). AllZip (IsToldBy c.args.rest) w c.loop-route.out.items)
    (take_all c.loop-route.route-index c.args.routes.now (omega (arith, c.loop-route-test.false))) c.loop-route.invariant)
