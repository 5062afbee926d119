-- Routes that are read from a cost table (source: own; no law).
use Rattle.std.specs.Prelude.{◌≡◌, ℕ}
use Rattle.route_base.specs.Setting.{Setting}
use Rattle.route_base.specs.Legs.{Achieves, HasNoNeighbouringWaits}
use Rattle.route_base.specs.declared.types.Request.{Request}
use Rattle.route_base.specs.declared.types.Route.{Route}
use Rattle.route_base.specs.FirstItinerary.{IsFirst}

-- the route arrives at t with the label of the goal as its cost, by lawful legs without neighbouring waits, the first itinerary
pub record IsRouteAt (s : Setting) (r : Request) (costs : ℕ → ℕ → ℕ) (t : ℕ) (route : Route) : Type 0 where
  pub arrival : route.pair.arrival ≡ t
  pub cost : route.pair.cost ≡ costs r.goal.0 t
  pub lawful : Achieves s r route.legs route.pair
  pub no_neighbours : HasNoNeighbouringWaits route.legs
  pub first : IsFirst s r route.legs route.pair
