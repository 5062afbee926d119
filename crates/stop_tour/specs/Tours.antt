-- Tours that serve stops in their order, and their Pareto front (source: own, after SEA 2020).
use Rattle.std.specs.Prelude.{◌≡◌, ◌≢◌, ◌⊎◌, ℕ, ◌+◌, ◌*◌, ◌≤◌, ◌<◌, ⊤, Some, List, [], ◌∷◌, ◌++◌, length, replicate, reverse, map, All}
use Rattle.route_base.specs.Setting.{Setting}
use Rattle.route_base.specs.Itinerary.{Position, Step, drive, wait, Moves}
use Rattle.route_base.specs.FirstItinerary.{IsStepBefore}
use Rattle.route_base.specs.Legs.{start_of, end_of}
use Rattle.route_base.specs.Front.{IsNoWorse}
use Rattle.route_base.specs.Net.{Net, at_number, setting_of}
use Rattle.route_base.specs.declared.limits.TheConstants.{DAY_MINUTES}
use Rattle.route_base.specs.declared.types.Pair.{Pair}
use Rattle.route_base.specs.declared.types.Request.{Request}
use Rattle.front_transport.specs.ParetoFronts.{IsParetoFront, ArrivesBefore}
use Rattle.stop_tour.specs.declared.stops.Stop.{Stop}
use Rattle.stop_tour.specs.declared.stops.TourLeg.{TourLeg}
use Rattle.stop_tour.specs.declared.stops.TourLeg.TheVariants.{Drive, Wait, Serve}
use Rattle.stop_tour.specs.declared.stops.TourRoute.{TourRoute}

-- a stop at one of the nodes from 1 to `nodes`, with a service of at most a day and a window
pub record IsStopAmong (nodes : ℕ) (stop : Stop) : Type 0 where
  pub node : (1 ≤ stop.node.0) × (stop.node.0 ≤ nodes)
  pub service : (1 ≤ stop.service) × (stop.service ≤ DAY_MINUTES)
  pub window : stop.from < stop.to

-- a stop at a node of the net
abbrev pub IsGoodStop : Net → Stop → Type 0
IsGoodStop net stop = IsStopAmong net.nodes stop

-- the nodes and arcs, once for each number of served stops
abbrev pub tour_size_in : Setting → List Stop → ℕ
tour_size_in s stops = (length stops + 1) * (s.nodes + s.arcs)

-- the size over a net
abbrev pub tour_size_of : Net → List Stop → ℕ
tour_size_of net stops = tour_size_in (setting_of net) stops

-- a position, and the number of stops that were served
pub record TourPosition : Type 0 where
  pub at : Position
  pub served : ℕ

-- a step of an itinerary, or the service of the stop of this number
pub data TourStep : Type 0 where
  go : Step → TourStep
  serve : ℕ → TourStep

-- a lawful service of stop i, the next one, leads from p to q: it is at the stop's node and within its window, and costs nothing
pub record Serves (stops : List Stop) (until i : ℕ) (p q : TourPosition) : Type 0 where
  pub next : i ≡ p.served + 1
  pub stop : Stop
  pub is : at_number stops i ≡ Some stop
  pub here : stop.node.0 ≡ p.at.node
  pub from : stop.from ≤ p.at.minute
  pub to : p.at.minute + stop.service ≤ stop.to
  pub in_time : p.at.minute + stop.service ≤ until
  pub node : q.at.node ≡ p.at.node
  pub minute : q.at.minute ≡ p.at.minute + stop.service
  pub cost : q.at.cost ≡ p.at.cost
  pub served : q.served ≡ i

-- a lawful step of a tour leads from p to q
abbrev pub TourMoves : Setting → List Stop → ℕ → TourStep → TourPosition → TourPosition → Type 0
TourMoves s stops until (go x) p q = Moves s until x p.at q.at × (q.served ≡ p.served)
TourMoves s stops until (serve i) p q = Serves stops until i p q

-- lawful steps of a tour lead from p to q
abbrev pub TourWalks : Setting → List Stop → ℕ → List TourStep → TourPosition → TourPosition → Type 0
TourWalks s stops until [] p q = p ≡ q
TourWalks s stops until (x ∷ xs) p q = (r : TourPosition) × TourMoves s stops until x p r × TourWalks s stops until xs r q

-- the origin at the departure, at no cost, and no stop was served
abbrev pub tour_start : Request → TourPosition
tour_start r = record { at = start_of r; served = 0 }

-- the goal at the arrival of the pair, at its cost, and this number of stops was served
abbrev pub tour_end : Request → ℕ → Pair → TourPosition
tour_end r count pair = record { at = end_of r pair; served = count }

-- some lawful tour of all stops arrives and costs as the pair says
pub record IsTourAchieved (s : Setting) (r : Request) (stops : List Stop) (pair : Pair) : Type 0 where
  pub in_time : r.depart ≤ r.until
  pub steps : List TourStep
  pub walk : TourWalks s stops r.until steps (tour_start r) (tour_end r (length stops) pair)

-- the Pareto front of tours, by rising arrival
abbrev pub IsTourFront : Setting → Request → List Stop → List Pair → Type 0
IsTourFront s r stops pairs = IsParetoFront IsNoWorse ArrivesBefore (IsTourAchieved s r stops) pairs

-- the steps of one leg of a tour
abbrev pub tour_steps_of_leg : TourLeg → List TourStep
tour_steps_of_leg (Drive a) = go (drive a.0) ∷ []
tour_steps_of_leg (Wait k) = replicate k (go wait)
tour_steps_of_leg (Serve i) = serve i ∷ []

-- the steps of legs of a tour
abbrev pub tour_steps_of : List TourLeg → List TourStep
tour_steps_of [] = []
tour_steps_of (leg ∷ legs) = tour_steps_of_leg leg ++ tour_steps_of legs

-- no leg is a wait of no minutes
abbrev pub HasNoEmptyTourWait : List TourLeg → Type 0
HasNoEmptyTourWait [] = ⊤
HasNoEmptyTourWait (leg ∷ legs) = (leg ≢ Wait 0) × HasNoEmptyTourWait legs

-- the first leg is no wait
abbrev pub StartsWithoutWait : List TourLeg → Type 0
StartsWithoutWait [] = ⊤
StartsWithoutWait (leg ∷ legs) = (k : ℕ) → leg ≢ Wait k

-- no two waits are neighbours
abbrev pub HasNoNeighbouringTourWaits : List TourLeg → Type 0
HasNoNeighbouringTourWaits [] = ⊤
HasNoNeighbouringTourWaits (Drive a ∷ legs) = HasNoNeighbouringTourWaits legs
HasNoNeighbouringTourWaits (Wait k ∷ legs) = StartsWithoutWait legs × HasNoNeighbouringTourWaits legs
HasNoNeighbouringTourWaits (Serve i ∷ legs) = HasNoNeighbouringTourWaits legs

-- the legs are a lawful tour of all stops with the pair, and no two neighbouring legs are waits
pub record AchievesTour (s : Setting) (r : Request) (stops : List Stop) (route : TourRoute) : Type 0 where
  pub in_time : r.depart ≤ r.until
  pub no_empty_wait : HasNoEmptyTourWait route.legs
  pub walk : TourWalks s stops r.until (tour_steps_of route.legs) (tour_start r) (tour_end r (length stops) route.pair)
  pub apart : HasNoNeighbouringTourWaits route.legs

-- the steps of an itinerary have its order, in which a wait comes before a drive, and each of them comes before a service
abbrev pub IsTourStepBefore : TourStep → TourStep → Type 0
IsTourStepBefore (go x) (go y) = IsStepBefore x y
IsTourStepBefore (go x) (serve j) = ⊤
IsTourStepBefore (serve i) (go y) = ⊥
IsTourStepBefore (serve i) (serve j) = i < j

-- of two lists of steps, the last step first, the first list comes before the second: at the first difference its step does
abbrev pub TourComesBefore : List TourStep → List TourStep → Type 0
TourComesBefore [] ys = ⊥
TourComesBefore (x ∷ xs) [] = ⊥
TourComesBefore (x ∷ xs) (y ∷ ys) = IsTourStepBefore x y ⊎ ((x ≡ y) × TourComesBefore xs ys)

-- of all lawful tours of the pair, these legs are the first, compared from the end
abbrev pub IsFirstTour : Setting → Request → List Stop → TourRoute → Type 0
IsFirstTour s r stops route = (steps : List TourStep) → TourWalks s stops r.until steps (tour_start r) (tour_end r (length stops) route.pair)
    → (steps ≡ tour_steps_of route.legs) ⊎ TourComesBefore (reverse (tour_steps_of route.legs)) (reverse steps)

-- the pairs are the Pareto front of tours, each with legs of its own, which are the first of the pair
pub record AreRightTours (s : Setting) (r : Request) (stops : List Stop) (routes : List TourRoute) : Type 0 where
  pub front : IsTourFront s r stops (map (λ x. x.pair) routes)
  pub legs : All (AchievesTour s r stops) routes
  pub first : All (IsFirstTour s r stops) routes
