-- The layered net: one layer for each number of served stops (source: own; no law).
use Rattle.std.specs.Prelude.{ℕ, zero, suc, ◌+◌, ◌-◌, ◌*◌, min, nat_lt, if◌then◌else◌, Option, List, [], ◌∷◌, ◌++◌, length, map}
use Rattle.route_base.specs.Net.{Net}
use Rattle.route_base.specs.declared.types.Park.{Park}
use Rattle.route_base.specs.declared.types.Request.{Request}
use Rattle.route_base.specs.declared.types.Run.{Run}
use Rattle.route_base.specs.declared.types.TimedArc.{TimedArc}
use Rattle.stop_tour.specs.declared.stops.Stop.{Stop}

-- the arc with both ends at nodes whose numbers are higher by this, and with its list of closed runs further on by that
abbrev pub lifted : ℕ → ℕ → TimedArc → TimedArc
lifted by place a = record {
  tail = record { 0 = by + a.tail.0 };
  head = record { 0 = by + a.head.0 };
  minutes = a.minutes;
  cost = a.cost;
  closed = place + a.closed;
}

-- the arcs of this number of layers; lists of closed runs begin with those of the last layer
abbrev pub layered : ℕ → ℕ → ℕ → List TimedArc → ℕ → List TimedArc
layered nodes lists last arcs zero = []
layered nodes lists last arcs (suc k) = layered nodes lists last arcs k ++ map (lifted (k * nodes) ((last - k) * lists)) arcs

-- this number of copies of the parks
abbrev pub copies : List (Option Park) → ℕ → List (Option Park)
copies parks zero = []
copies parks (suc k) = copies parks k ++ parks

-- the arc of a service from layer j to the next
abbrev pub service : ℕ → ℕ → ℕ → Stop → TimedArc
service nodes place j stop = record {
  tail = record { 0 = j * nodes + stop.node.0 };
  head = record { 0 = (j + 1) * nodes + stop.node.0 };
  minutes = stop.service;
  cost = 0;
  closed = place + j;
}

-- the services of stops, from layer j on
abbrev pub services : ℕ → ℕ → ℕ → List Stop → List TimedArc
services nodes place j [] = []
services nodes place j (stop ∷ stops) = service nodes place j stop ∷ services nodes place (j + 1) stops

-- the minutes before the horizon that are outside the window of a stop
abbrev pub outside : ℕ → Stop → List Run
outside until stop = (if nat_lt 0 stop.from then record { lo = 0; hi = stop.from } ∷ [] else [])
    ++ (if nat_lt stop.to until then record { lo = stop.to; hi = until } ∷ [] else [])

-- the last minute in a layer from which the other stops can be served within their windows
abbrev pub last_minute : ℕ → List Stop → ℕ → ℕ
last_minute until [] j = until
last_minute until (stop ∷ stops) zero = min stop.to (last_minute until stops zero) - stop.service
last_minute until (stop ∷ stops) (suc j) = last_minute until stops j

-- the rest of the time is closed
abbrev pub closed_from : ℕ → ℕ → List Run
closed_from late until = if nat_lt late until then record { lo = late; hi = until } ∷ [] else []

-- the runs, and from a minute on all minutes before the horizon
abbrev pub runs_and_rest : ℕ → ℕ → List Run → List Run
runs_and_rest late until [] = closed_from late until
runs_and_rest late until (run ∷ runs) = if nat_lt run.hi late then run ∷ runs_and_rest late until runs else closed_from (min run.lo late) until

-- the lists of closed runs of each layer, the last layer first
abbrev pub layered_lists : ℕ → List (List Run) → List Stop → List (List Run)
layered_lists until lists [] = lists
layered_lists until lists (stop ∷ stops) =
    layered_lists until lists stops ++ map (runs_and_rest (last_minute until (stop ∷ stops) zero) until) lists

-- a layer for each number of served stops, whose arcs are closed when it is too late for the other stops, and a service from each layer
-- to the next
abbrev pub tour_net : Net → List Stop → ℕ → Net
tour_net net stops until = record {
  nodes = suc (length stops) * net.nodes;
  arcs = layered net.nodes (length net.closed) (length stops) net.arcs (suc (length stops))
      ++ services net.nodes (suc (length stops) * length net.closed) 0 stops;
  closed = layered_lists until net.closed stops ++ map (outside until) stops;
  parks = copies net.parks (suc (length stops));
}

-- from the origin in the first layer to the goal in the last
abbrev pub tour_request : Net → List Stop → Request → Request
tour_request net stops r = record { origin = r.origin; goal = record { 0 = length stops * net.nodes + r.goal.0 }; depart = r.depart; until = r.until }
