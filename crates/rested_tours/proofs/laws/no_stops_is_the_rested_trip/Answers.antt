use Rattle.rested_tours.proofs.NoStops.{no_stops_front, no_stops_legs}
use Rattle.rested_tours.proofs.laws.no_stops_is_the_rested_trip.Goals as goal

pub returns-clause-front : goal.returns-clause-front
returns-clause-front c = no_stops_front

pub returns-clause-legs : goal.returns-clause-legs
returns-clause-legs c = no_stops_legs
