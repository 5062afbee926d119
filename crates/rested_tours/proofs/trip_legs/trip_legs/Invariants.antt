use Rattle.std.proofs.Common.{◌≡◌, map, take}
use Rattle.rested_tours.specs.Inside.ToldLegs.{as_tour_leg}
use Rattle.rested_tours.proofs.trip_legs.trip_legs.Given as goal

abbrev pub invariant-loop-leg : goal.invariant-loop-leg
invariant-loop-leg l = map as_tour_leg l.out.items ≡ take l.leg-index l.legs
