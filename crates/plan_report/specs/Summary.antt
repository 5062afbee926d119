-- The summary of a network that was made, and of the routes of a trip over it (source: own).
use Rattle.std.specs.Prelude.{ℕ, ◌-◌, Option, Some, None, List, [], ◌++◌, length, codes, decimal, slice_get}
use Rattle.route_base.specs.declared.types.Pair.{Pair}
use Rattle.route_base.specs.declared.types.Route.{Route}
use Rattle.line_texts.specs.Words.{thousandths_of}

-- the line of a pair behind a word, with its arrival in Unix minutes
abbrev pub named_pair_text : List ℕ → Pair → List ℕ
named_pair_text word pair = word ++ codes " " ++ decimal pair.arrival ++ codes " " ++ thousandths_of pair.cost ++ codes "\n"

-- the line of a route behind a word, where there is one
abbrev pub named_route_text : List ℕ → Option Route → List ℕ
named_route_text word None = []
named_route_text word (Some route) = named_pair_text word route.pair

-- the lines of the first route and of the last, where there is one
abbrev pub ends_text : List Route → List ℕ
ends_text routes = named_route_text (codes "first") (slice_get routes 0) ++ named_route_text (codes "last") (slice_get routes (length routes - 1))

-- the numbers of nodes and arcs, the number of routes, and the first and the last of them
abbrev pub summary_text_of : ℕ → ℕ → List Route → List ℕ
summary_text_of nodes arcs routes =
    codes "generated " ++ decimal nodes ++ codes " " ++ decimal arcs ++ codes "\npairs " ++ decimal (length routes) ++ codes "\n"
    ++ ends_text routes
