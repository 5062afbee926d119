-- The legs of a search over states as steps and legs of a tour (source: own; no law).
use Rattle.std.specs.Prelude.{◌≡◌, ℕ, suc, ◌≤◌, ◌<◌, ◌^◌, ⊤, List, [], ◌∷◌, ◌++◌, replicate, length, map, All}
use Rattle.route_base.specs.Itinerary.{drive, wait}
use Rattle.route_base.specs.declared.types.Leg.{Leg}
use Rattle.route_base.specs.declared.types.Leg.TheVariants.{Drive as LegDrive, Wait as LegWait}
use Rattle.ruled_search.specs.declared.routes.RuledLeg.{RuledLeg}
use Rattle.ruled_search.specs.declared.routes.RuledLeg.TheVariants.{Drive, Rest, Wait, Serve}
use Rattle.ruled_states.specs.Inside.Codes.{base}
use Rattle.stop_tour.specs.Tours.{TourStep, go, serve, tour_steps_of, HasNoEmptyTourWait, HasNoNeighbouringTourWaits}
use Rattle.route_base.specs.declared.types.Route.{Route}
use Rattle.stop_tour.specs.declared.stops.TourRoute.{TourRoute}
use Rattle.stop_tour.specs.declared.stops.TourLeg.{TourLeg}
use Rattle.stop_tour.specs.declared.stops.TourLeg.TheVariants.{Drive as TourDrive, Wait as TourWait, Serve as TourServe}

-- the steps of a tour that a leg over states tells, where a rest takes these minutes
abbrev pub told_by : ℕ → RuledLeg → List TourStep
told_by rest (Drive a) = go (drive a.0) ∷ []
told_by rest (Rest place) = replicate rest (go wait)
told_by rest (Wait minutes) = replicate minutes (go wait)
told_by rest (Serve place) = serve (suc place) ∷ []

-- the steps that legs tell, one leg after the other
abbrev pub told : ℕ → List RuledLeg → List TourStep
told rest [] = []
told rest (leg ∷ legs) = told_by rest leg ++ told rest legs

-- the number of the leg's arc, rest or service is one of 64 bits
abbrev pub IsLegNumbered : RuledLeg → Type 0
IsLegNumbered (Drive a) = a.0 < base
IsLegNumbered (Rest place) = place < base
IsLegNumbered (Wait minutes) = ⊤
IsLegNumbered (Serve place) = place < base

-- the number of a stop that the leg serves is one of 32 bits
abbrev pub IsServiceNumbered : RuledLeg → Type 0
IsServiceNumbered (Drive a) = ⊤
IsServiceNumbered (Rest place) = ⊤
IsServiceNumbered (Wait minutes) = ⊤
IsServiceNumbered (Serve place) = suc place < 2 ^ 32

-- the legs can be told: rests take minutes, the steps are far below 64 bits in number, and the stops have numbers
pub record AreTellable (rest : ℕ) (legs : List RuledLeg) : Type 0 where
  pub some : 1 ≤ rest
  pub short : length (told rest legs) < 2 ^ 62
  pub stops : All IsServiceNumbered legs

-- the legs of a tour tell the same steps; no wait is empty, and no two are neighbours
pub record AreTourLegs (rest : ℕ) (legs : List RuledLeg) (tour : List TourLeg) : Type 0 where
  pub steps : tour_steps_of tour ≡ told rest legs
  pub no_empty_wait : HasNoEmptyTourWait tour
  pub apart : HasNoNeighbouringTourWaits tour

-- a leg of a trip as one of a tour
abbrev pub as_tour_leg : Leg → TourLeg
as_tour_leg (LegDrive a) = TourDrive a
as_tour_leg (LegWait minutes) = TourWait minutes

-- the leg serves no stop
abbrev pub IsNoService : TourLeg → Type 0
IsNoService (TourDrive a) = ⊤
IsNoService (TourWait minutes) = ⊤
IsNoService (TourServe i) = ⊥

-- the route of a trip has the pair and the legs of the tour
pub record IsTripOf (tour : TourRoute) (route : Route) : Type 0 where
  pub pair : route.pair ≡ tour.pair
  pub legs : tour.legs ≡ map as_tour_leg route.legs
