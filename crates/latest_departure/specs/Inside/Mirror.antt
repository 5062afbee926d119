-- The net mirrored in time: minute t becomes a sum less t (source: own; no law).
use Rattle.std.specs.Prelude.{◌≡◌, ◌⊎◌, ◌==◌, ℕ, ◌+◌, ◌-◌, ⊤, Option, Some, None, List, [], ◌∷◌, ◌++◌, map, nat_lt, if◌then◌else◌, length, reverse, unwrap_or}
use Rattle.std.specs.Option.{option_and_then, option_or}
use Rattle.route_base.specs.FirstItinerary.{IsStepBefore}
use Rattle.route_base.specs.Itinerary.{Step}
use Rattle.route_base.specs.Net.{Net, at_number, park_at}
use Rattle.route_base.specs.declared.types.Leg.{Leg}
use Rattle.route_base.specs.declared.types.Leg.TheVariants.{Drive, Wait}
use Rattle.route_base.specs.declared.types.NodeId.{NodeId}
use Rattle.route_base.specs.declared.types.Park.{Park}
use Rattle.route_base.specs.declared.types.Request.{Request}
use Rattle.route_base.specs.declared.types.Route.{Route}
use Rattle.route_base.specs.declared.types.Run.{Run}
use Rattle.route_base.specs.declared.types.TimedArc.{TimedArc}
use Rattle.latest_departure.specs.declared.routes.LateRoute.{LateRoute}

abbrev pub mirrored_run : ℕ → Run → Run
mirrored_run sum run = record { lo = sum - run.hi; hi = sum - run.lo }

-- the runs that begin before the sum, mirrored, the last first
abbrev pub mirrored_runs : ℕ → List Run → List Run
mirrored_runs sum [] = []
mirrored_runs sum (run ∷ runs) = mirrored_runs sum runs ++ (if nat_lt run.lo sum then mirrored_run sum run ∷ [] else [])

-- all lists mirrored, and an empty one behind them
abbrev pub mirrored_lists_of : ℕ → List (List Run) → List (List Run)
mirrored_lists_of sum lists = map (mirrored_runs sum) lists ++ [] ∷ []

-- the arc the other way round
abbrev pub turned : TimedArc → TimedArc
turned a = record { tail = a.head; head = a.tail; minutes = a.minutes; cost = a.cost; closed = a.closed }

-- the arc of one minute from the further node to the goal
abbrev pub gate : Net → ℕ → TimedArc
gate net goal = record { tail = record { 0 = net.nodes + 1 }; head = record { 0 = goal }; minutes = 1; cost = 0; closed = length net.closed }

-- a park where waiting is free, with the empty list of runs
abbrev pub free_park : ℕ → Park
free_park empty = record { weight = 0; shut = empty }

-- all arcs turned and all runs mirrored, with a further node, where waiting is free, before the goal
abbrev pub mirrored : Net → ℕ → ℕ → Net
mirrored net goal sum = record {
  nodes = net.nodes + 1;
  arcs = map turned net.arcs ++ gate net goal ∷ [];
  closed = mirrored_lists_of sum net.closed;
  parks = net.parks ++ Some (free_park (length net.closed)) ∷ [];
}

-- from the further node at minute 0 to the origin
abbrev pub mirrored_request : Net → Request → Request
mirrored_request net r = record { origin = record { 0 = net.nodes + 1 }; goal = r.origin; depart = 0; until = r.until + 1 - r.depart }

-- the legs behind the first drive, which nothing but one wait stands before
abbrev pub after_gate : List Leg → List Leg
after_gate [] = []
after_gate (Drive a ∷ legs) = legs
after_gate (Wait k ∷ []) = []
after_gate (Wait k ∷ x ∷ legs) = legs

-- the node to which a leg leads backwards from a node, if it costs nothing
abbrev pub free_to_in : Net → NodeId → Leg → Option NodeId
free_to_in net v (Drive a) = option_and_then (λ arc. if arc.cost == 0 then Some arc.tail else None) (at_number net.arcs a.0)
free_to_in net v (Wait k) = option_and_then (λ park. if park.weight == 0 then Some v else None) (park_at net v.0)

-- from a node on, the legs behind the last time that the goal is reached at no cost, if it is
abbrev pub behind_last : Net → ℕ → NodeId → List Leg → Option (List Leg)
behind_last net goal v [] = if v.0 == goal then Some [] else None
behind_last net goal v (leg ∷ legs) =
    option_or (option_and_then (λ w. behind_last net goal w legs) (free_to_in net v leg)) (if v.0 == goal then Some (leg ∷ legs) else None)

-- the legs from the goal without those that lead from it to it at no cost
abbrev pub own_legs_of : Net → NodeId → List Leg → List Leg
own_legs_of net goal legs = unwrap_or (behind_last net goal.0 goal legs) legs

abbrev pub late_of : Net → NodeId → ℕ → Route → LateRoute
late_of net goal sum route =
    record { departure = sum - route.pair.arrival; cost = route.pair.cost; legs = reverse (own_legs_of net goal (after_gate route.legs)) }

-- of two lists of steps the first comes before the second: at the first difference its step does, or the second has ended
abbrev pub GoesOnBefore : List Step → List Step → Type 0
GoesOnBefore [] ys = ⊥
GoesOnBefore (x ∷ xs) [] = ⊤
GoesOnBefore (x ∷ xs) (y ∷ ys) = IsStepBefore x y ⊎ ((x ≡ y) × GoesOnBefore xs ys)
