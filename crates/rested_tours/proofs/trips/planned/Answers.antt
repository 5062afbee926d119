use Rattle.std.proofs.Common.{All, List, sym, subst}
use Rattle.std.specs.List.{AllZip}
use Rattle.drive_breaks.specs.Rested.{AreRightRested}
use Rattle.drive_breaks.specs.RestedOrder.{IsFirstRested}
use Rattle.route_base.specs.Net.{setting_of}
use Rattle.stop_tour.specs.declared.stops.TourRoute.{TourRoute}
use Rattle.rested_tours.specs.Inside.ToldLegs.{IsNoService, IsTripOf}
use Rattle.rested_tours.proofs.NoStops.{first_trips, none_served, right_trips}
use Rattle.rested_tours.proofs.trips.planned.Goals as goal

pub routes_of-requires : goal.routes_of-requires
routes_of-requires c =
    subst (λ (w : List TourRoute). All (λ (x : TourRoute). All IsNoService x.legs) w) (sym c.as_slice.ensures)
    (none_served (setting_of c.args.net.now) c.args.request c.args.rule c.in_ok-tours.tours c.in_ok-tours.ensures.legs)

pub returns-clause-right : goal.returns-clause-right
returns-clause-right c =
    subst (AreRightRested (setting_of c.args.net.now) c.args.request c.args.rule) (sym c.from_vec.ensures)
    (right_trips (setting_of c.args.net.now) c.args.request c.args.rule c.in_ok-tours.tours c.in_ok-routes.routes.items
    (subst (λ (w : List TourRoute). AllZip IsTripOf w c.in_ok-routes.routes.items) c.as_slice.ensures c.in_ok-routes.ensures) c.in_ok-tours.ensures)

pub returns-clause-first : goal.returns-clause-first
returns-clause-first c =
    subst (All (IsFirstRested (setting_of c.args.net.now) c.args.request c.args.rule)) (sym c.from_vec.ensures)
    (first_trips (setting_of c.args.net.now) c.args.request c.args.rule c.in_ok-tours.tours c.in_ok-routes.routes.items
    (subst (λ (w : List TourRoute). AllZip IsTripOf w c.in_ok-routes.routes.items) c.as_slice.ensures c.in_ok-routes.ensures) c.in_ok-tours.ensures.first)
