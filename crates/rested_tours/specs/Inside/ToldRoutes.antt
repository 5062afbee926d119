-- The routes of a search over states as those of tours (source: own; no law).
use Rattle.std.specs.Prelude.{◌≡◌, ℕ, All}
use Rattle.ruled_search.specs.declared.routes.RuledRoute.{RuledRoute}
use Rattle.stop_tour.specs.declared.stops.TourRoute.{TourRoute}
use Rattle.rested_tours.specs.Inside.ToldLegs.{AreTellable, AreTourLegs, IsLegNumbered}

-- the legs can be told where their numbers are of 64 bits, as those of the program are
abbrev pub IsTellableRoute : ℕ → RuledRoute → Type 0
IsTellableRoute rest route = All IsLegNumbered route.legs.items → AreTellable rest route.legs.items

-- the tour has the route's pair, and its legs tell the same steps
pub record IsToldBy (rest : ℕ) (route : RuledRoute) (tour : TourRoute) : Type 0 where
  pub pair : tour.pair ≡ route.pair
  pub numbered : All IsLegNumbered route.legs.items
  pub legs : AreTourLegs rest route.legs.items tour.legs
