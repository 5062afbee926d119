-- The plain text of tours (source: own).
use Rattle.std.specs.Prelude.{ℕ, List, ◌++◌, codes, decimal, flat_map}
use Rattle.route_base.specs.declared.types.Leg.TheVariants as leg
use Rattle.line_texts.specs.Words.{plain_leg_text}
use Rattle.route_lines.specs.RouteLines.{route_line, plain_routes_of}
use Rattle.stop_tour.specs.declared.stops.TourLeg.{TourLeg}
use Rattle.stop_tour.specs.declared.stops.TourLeg.TheVariants.{Drive, Wait, Serve}
use Rattle.stop_tour.specs.declared.stops.TourRoute.{TourRoute}

-- a drive or a wait as in other plans, or a word and the number of the stop
abbrev pub tour_leg_text : TourLeg → List ℕ
tour_leg_text (Drive arc) = plain_leg_text (leg.Drive arc)
tour_leg_text (Wait minutes) = plain_leg_text (leg.Wait minutes)
tour_leg_text (Serve i) = codes "serve " ++ decimal i ++ codes "\n"

-- a route's line, with its arrival, and those of its legs
abbrev pub tour_route_text : TourRoute → List ℕ
tour_route_text route = route_line (codes "pair ") route.pair.arrival route.pair.cost ++ flat_map tour_leg_text route.legs

-- the number of routes, and then the routes
abbrev pub tour_text_of : List TourRoute → List ℕ
tour_text_of routes = plain_routes_of tour_route_text routes
