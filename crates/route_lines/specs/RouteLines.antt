-- The plain lines of routes (source: own).
use Rattle.std.specs.Prelude.{ℕ, List, ◌++◌, length, codes, decimal, flat_map}
use Rattle.route_base.specs.declared.types.Route.{Route}
use Rattle.line_texts.specs.Words.{plain_leg_text, thousandths_of}

-- the first line of a route: a word, a minute in Unix minutes, and a cost
abbrev pub route_line : List ℕ → ℕ → ℕ → List ℕ
route_line word minute cost = word ++ decimal minute ++ codes " " ++ thousandths_of cost ++ codes "\n"

-- a route's line, with its arrival, and those of its legs
abbrev pub plain_route_text : Route → List ℕ
plain_route_text route = route_line (codes "pair ") route.pair.arrival route.pair.cost ++ flat_map plain_leg_text route.legs

-- the number of routes, and then the lines of each
abbrev pub plain_routes_of : {R : Type 0} → (R → List ℕ) → List R → List ℕ
plain_routes_of lines routes = codes "pairs " ++ decimal (length routes) ++ codes "\n" ++ flat_map lines routes
