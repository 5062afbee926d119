-- Routes as JSON, the keys of each object in alphabetical order (source: RFC 8259; the keys are own).
use Rattle.std.specs.Prelude.{ℕ, List, ◌++◌, map, codes}
use Rattle.serde_json.specs.Data.{Data, number, unsigned, string, array, object, member, no_members}
use Rattle.serde_json.specs.View.{items_of}
use Rattle.serde_json.specs.Written.{compact_text}
use Rattle.route_base.specs.declared.types.Leg.{Leg}
use Rattle.route_base.specs.declared.types.Leg.TheVariants.{Drive, Wait}
use Rattle.route_base.specs.declared.types.Route.{Route}

-- a leg
abbrev pub leg_data : Leg → Data
leg_data (Drive a) = object (member (codes "arc") (number (unsigned a.0)) (member (codes "kind") (string (codes "drive")) no_members))
leg_data (Wait k) = object (member (codes "kind") (string (codes "wait")) (member (codes "minutes") (number (unsigned k)) no_members))

-- legs in their order
abbrev pub legs_data : List Leg → Data
legs_data legs = array (items_of (map leg_data legs))

-- a route: its arrival in Unix minutes, its cost in thousandths, and its legs
abbrev pub route_data : Route → Data
route_data route =
    object (member (codes "arrival") (number (unsigned route.pair.arrival)) (member (codes "cost") (number (unsigned route.pair.cost))
    (member (codes "legs") (legs_data route.legs) no_members)))

-- an object whose one member is the list of the routes
abbrev pub routes_data : List Route → Data
routes_data routes = object (member (codes "pairs") (array (items_of (map route_data routes))) no_members)

-- one line without blanks
abbrev pub json_text_of : List Route → List ℕ
json_text_of routes = compact_text (routes_data routes) ++ codes "\n"
