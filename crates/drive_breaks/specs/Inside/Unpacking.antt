-- Steps, legs and routes over states as those of the net, by the leg of each arc (source: own; no law).
use Rattle.std.specs.Prelude.{◌≡◌, ◌≢◌, ℕ, ◌≤◌, ◌<◌, ◌^◌, ⊤, Option, Some, None, List, [], ◌∷◌, ◌++◌, length, All}
use Rattle.route_base.specs.Setting.{Setting}
use Rattle.route_base.specs.Itinerary.{Step, drive, wait, Walks}
use Rattle.route_base.specs.Legs.{steps_of, steps_of_leg, start_of, end_of}
use Rattle.route_base.specs.Net.{at_number}
use Rattle.route_base.specs.declared.types.Leg.{Leg}
use Rattle.route_base.specs.declared.types.Leg.TheVariants.{Drive, Wait}
use Rattle.route_base.specs.declared.types.Request.{Request}
use Rattle.route_base.specs.declared.types.Route.{Route}
use Rattle.tidy_legs.specs.Tidiness.{IsTidy}
use Rattle.drive_breaks.specs.Rested.{IsRestedFrom}
use Rattle.drive_states.specs.declared.rule.BreakRule.{BreakRule}

-- the steps of an arc's leg
abbrev pub steps_by : Option Leg → List Step
steps_by None = []
steps_by (Some leg) = steps_of_leg leg

-- steps over states as steps of the net
abbrev pub unpacked : List Leg → List Step → List Step
unpacked sources [] = []
unpacked sources (drive x ∷ xs) = steps_by (at_number sources x) ++ unpacked sources xs
unpacked sources (wait ∷ xs) = wait ∷ unpacked sources xs

-- the leg has steps in the net
abbrev pub IsSourced : List Leg → Leg → Type 0
IsSourced sources (Drive x) = (leg : Leg) × (at_number sources x.0 ≡ Some leg) × (leg ≢ Wait 0)
IsSourced sources (Wait k) = 1 ≤ k

-- each leg of the route has steps in the net, and they are far below 64 bits in number
pub record IsSourcedRoute (sources : List Leg) (over : Route) : Type 0 where
  pub each : All (IsSourced sources) over.legs
  pub short : length (unpacked sources (steps_of over.legs)) < 2 ^ 62

-- the route has the pair of the one over states and, in tidy legs, its steps
pub record IsUnpackedRoute (sources : List Leg) (over route : Route) : Type 0 where
  pub pair : route.pair ≡ over.pair
  pub tidy : IsTidy route.legs
  pub steps : steps_of route.legs ≡ unpacked sources (steps_of over.legs)

-- the routes are those over states unpacked, in their order
abbrev pub AreUnpacked : List Leg → List Route → List Route → Type 0
AreUnpacked sources [] [] = ⊤
AreUnpacked sources [] (route ∷ routes) = ⊥
AreUnpacked sources (over ∷ overs) [] = ⊥
AreUnpacked sources (over ∷ overs) (route ∷ routes) = IsUnpackedRoute sources over route × AreUnpacked sources overs routes

-- the legs over states, unpacked, are lawful, keep the rule and have the pair
pub record IsUnpackable (s : Setting) (r : Request) (rule : BreakRule) (sources : List Leg) (over : Route) : Type 0 where
  pub sourced : IsSourcedRoute sources over
  pub in_time : r.depart ≤ r.until
  pub walk : Walks s r.until (unpacked sources (steps_of over.legs)) (start_of r) (end_of r over.pair)
  pub rested : IsRestedFrom s.road rule [] (unpacked sources (steps_of over.legs))

-- the one route of a trip to its origin: to stay
abbrev pub stay_at : ℕ → List Route
stay_at depart = record { pair = record { arrival = depart; cost = 0 }; legs = [] } ∷ []
