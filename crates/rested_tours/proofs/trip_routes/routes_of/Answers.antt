use Rattle.std.proofs.Common.{◌≡◌, ◌++◌, ◌∷◌, [], List, get_or, take, sym, subst, arith, rules}
use Rattle.std.specs.List.{AllZip}
use Rattle.std.proofs.lemmas.List.{take_all, take_more}
use Rattle.route_base.specs.declared.types.Route.{Route}
use Rattle.stop_tour.specs.declared.stops.TourRoute.{TourRoute}
use Rattle.rested_tours.specs.Inside.ToldLegs.{IsTripOf}
use Rattle.rested_tours.proofs.ToldRoutes.{zip_push}
use Rattle.rested_tours.proofs.trip_routes.routes_of.Goals as goal

pub loop-tour-preserved : goal.loop-tour-preserved
loop-tour-preserved c =
    let grown : c.push.new.self.items ≡ c.loop-tour.out.items ++ c.in_ok-route.route ∷ [] = search rules in
    let tours : List TourRoute = c.args.tours.now in
    let i = c.loop-tour.tour-index in
    let item : TourRoute = get_or tours i c.tour-item.result in
    subst (λ (w : List TourRoute). AllZip IsTripOf w c.push.new.self.items) (sym (take_more tours i c.tour-item.result c.loop-tour-test.true))
    (subst (λ (w : List Route). AllZip IsTripOf (take i tours ++ item ∷ []) w) (sym grown)
    (zip_push IsTripOf (take i tours) c.loop-tour.out.items item c.in_ok-route.route c.loop-tour.invariant
    (subst (λ (w : TourRoute). IsTripOf w c.in_ok-route.route) c.tour-item.is c.in_ok-route.ensures)))

pub returns : goal.returns
returns c =
    subst (λ (w : List TourRoute). AllZip IsTripOf w c.loop-tour.out.items)
    (take_all c.loop-tour.tour-index c.args.tours.now (omega (arith, c.loop-tour-test.false))) c.loop-tour.invariant
