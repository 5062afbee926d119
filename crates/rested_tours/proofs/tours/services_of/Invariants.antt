use Rattle.std.proofs.Common.{◌≡◌, map, take}
use Rattle.ruled_states.specs.Inside.Services.{service_at}
use Rattle.rested_tours.specs.Inside.TourRuler.{stop_service}
use Rattle.rested_tours.proofs.tours.services_of.Given as goal

abbrev pub invariant-loop-stop : goal.invariant-loop-stop
invariant-loop-stop l = map service_at l.out.items ≡ map stop_service (take l.stop-index l.stops)
