use Rattle.stop_tour.proofs.NoStops.{no_stops}
use Rattle.stop_tour.proofs.laws.no_stops_is_the_trip.Goals as goal

pub returns : goal.returns
returns c = no_stops
