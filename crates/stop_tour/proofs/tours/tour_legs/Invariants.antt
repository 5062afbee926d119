use Rattle.std.proofs.Common.{◌≡◌, map, take}
use Rattle.stop_tour.specs.Inside.Unlayering.{leg_over}
use Rattle.stop_tour.proofs.tours.tour_legs.Given as goal

abbrev pub invariant-loop-leg : goal.invariant-loop-leg
invariant-loop-leg l = l.out.items ≡ map (leg_over l.arcs l.layers) (take l.leg-index l.legs)
