-- The latest departures: what itineraries that leave later achieve, and their Pareto front (source: own, after SEA 2020).
use Rattle.std.specs.Prelude.{◌≡◌, ◌⊎◌, ℕ, ◌≤◌, ◌<◌, ⊤, List, [], ◌∷◌, map, All}
use Rattle.route_base.specs.Setting.{Setting}
use Rattle.route_base.specs.FirstItinerary.{IsStepBefore}
use Rattle.route_base.specs.Itinerary.{Step, Walks}
use Rattle.route_base.specs.Legs.{Achieves, HasNoNeighbouringWaits, start_of, end_of, steps_of}
use Rattle.route_base.specs.Front.{IsAchieved}
use Rattle.route_base.specs.declared.types.Pair.{Pair}
use Rattle.route_base.specs.declared.types.Request.{Request}
use Rattle.front_transport.specs.ParetoFronts.{IsParetoFront}
use Rattle.latest_departure.specs.declared.routes.LateRoute.{LateRoute}

-- a departure, and the cost of an itinerary that leaves then
pub record LatePair : Type 0 where
  pub departure : ℕ
  pub cost : ℕ

-- the request with another departure
abbrev pub request_from : Request → ℕ → Request
request_from r departure = record { origin = r.origin; goal = r.goal; depart = departure; until = r.until }

abbrev pub pair_at : ℕ → ℕ → Pair
pair_at arrival cost = record { arrival = arrival; cost = cost }

-- some lawful itinerary leaves then, not before the request's departure, arrives in time, and has this cost
pub record IsLateAchieved (s : Setting) (r : Request) (p : LatePair) : Type 0 where
  pub from : r.depart ≤ p.departure
  pub arrival : ℕ
  pub achieved : IsAchieved s (request_from r p.departure) (pair_at arrival p.cost)

-- p departs no earlier than q and costs no more
abbrev pub IsLateNoWorse : LatePair → LatePair → Type 0
IsLateNoWorse p q = (q.departure ≤ p.departure) × (p.cost ≤ q.cost)

-- p departs after q
abbrev pub DepartsAfter : LatePair → LatePair → Type 0
DepartsAfter p q = q.departure < p.departure

-- the late front, by falling departure
abbrev pub IsLateFront : Setting → Request → List LatePair → Type 0
IsLateFront s r pairs = IsParetoFront IsLateNoWorse DepartsAfter (IsLateAchieved s r) pairs

abbrev pub late_pair_of : LateRoute → LatePair
late_pair_of route = record { departure = route.departure; cost = route.cost }

-- the legs are a lawful itinerary with this departure and cost, and no two neighbouring legs are waits
pub record AchievesLate (s : Setting) (r : Request) (route : LateRoute) : Type 0 where
  pub from : r.depart ≤ route.departure
  pub arrival : ℕ
  pub achieves : Achieves s (request_from r route.departure) route.legs (pair_at arrival route.cost)
  pub apart : HasNoNeighbouringWaits route.legs

-- of two lists of steps the first list comes before the second, as in a dictionary: at the first difference its step does, or it has ended
abbrev pub IsListedBefore : List Step → List Step → Type 0
IsListedBefore xs [] = ⊥
IsListedBefore [] (y ∷ ys) = ⊤
IsListedBefore (x ∷ xs) (y ∷ ys) = IsStepBefore x y ⊎ ((x ≡ y) × IsListedBefore xs ys)

-- of all lawful itineraries that leave then and have this cost, whenever they arrive, these legs are the first, compared from the
-- beginning
abbrev pub IsFirstLate : Setting → Request → LateRoute → Type 0
IsFirstLate s r route = (steps : List Step) (arrival : ℕ)
    → Walks s r.until steps (start_of (request_from r route.departure)) (end_of (request_from r route.departure) (pair_at arrival route.cost))
    → (steps ≡ steps_of route.legs) ⊎ IsListedBefore (steps_of route.legs) steps

-- the pairs are the late front, each with legs of its own, which are the first of the pair
pub record AreRightLate (s : Setting) (r : Request) (routes : List LateRoute) : Type 0 where
  pub front : IsLateFront s r (map late_pair_of routes)
  pub legs : All (AchievesLate s r) routes
  pub first : All (IsFirstLate s r) routes
