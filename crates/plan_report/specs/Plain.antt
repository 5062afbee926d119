-- The plain text of routes (source: own).
use Rattle.std.specs.Prelude.{ℕ, List}
use Rattle.route_base.specs.declared.types.Route.{Route}
use Rattle.route_lines.specs.RouteLines.{plain_route_text, plain_routes_of}

-- the number of routes, and then the routes, with their arrivals
abbrev pub plain_text_of : List Route → List ℕ
plain_text_of routes = plain_routes_of plain_route_text routes
