-- The plain text of latest departures (source: own).
use Rattle.std.specs.Prelude.{ℕ, List, ◌++◌, codes, flat_map}
use Rattle.line_texts.specs.Words.{plain_leg_text}
use Rattle.route_lines.specs.RouteLines.{route_line, plain_routes_of}
use Rattle.latest_departure.specs.declared.routes.LateRoute.{LateRoute}

-- a route's line, with its departure, and those of its legs
abbrev pub late_route_text : LateRoute → List ℕ
late_route_text route = route_line (codes "leave ") route.departure route.cost ++ flat_map plain_leg_text route.legs

-- the number of routes, and then the routes
abbrev pub late_text_of : List LateRoute → List ℕ
late_text_of routes = plain_routes_of late_route_text routes
