-- Steps and legs over layers as those of a tour: a number tells the arc or the stop (source: own; no law).
use Rattle.std.specs.Prelude.{ℕ, ◌+◌, ◌-◌, ◌*◌, ◌%◌, ◌≤◌, nat_le, if◌then◌else◌, map}
use Rattle.route_base.specs.Itinerary.{Step, drive, wait}
use Rattle.route_base.specs.declared.types.Leg.{Leg}
use Rattle.route_base.specs.declared.types.Leg.TheVariants.{Drive, Wait}
use Rattle.route_base.specs.declared.types.Route.{Route}
use Rattle.stop_tour.specs.Tours.{TourStep, go, serve}
use Rattle.stop_tour.specs.declared.stops.TourLeg.{TourLeg}
use Rattle.stop_tour.specs.declared.stops.TourLeg.TheVariants.{Drive as TourDrive, Wait as TourWait, Serve}
use Rattle.stop_tour.specs.declared.stops.TourRoute.{TourRoute}

abbrev pub step_over : ℕ → ℕ → Step → TourStep
step_over arcs layers (drive x) = if nat_le x (layers * arcs) then go (drive ((x - 1) % arcs + 1)) else serve (x - layers * arcs)
step_over arcs layers wait = go wait

abbrev pub leg_over : ℕ → ℕ → Leg → TourLeg
leg_over arcs layers (Drive x) = if nat_le x.0 (layers * arcs) then TourDrive (record { 0 = (x.0 - 1) % arcs + 1 }) else Serve (x.0 - layers * arcs)
leg_over arcs layers (Wait k) = TourWait k

abbrev pub route_over : ℕ → ℕ → Route → TourRoute
route_over arcs layers route = record { pair = route.pair; legs = map (leg_over arcs layers) route.legs }

-- the number of a drive is at least 1
abbrev pub IsNumbered : Leg → Type 0
IsNumbered (Drive x) = 1 ≤ x.0
IsNumbered (Wait k) = 0 ≤ k
