use Rattle.std.proofs.Common.{◌≡◌, take}
use Rattle.stop_tour.specs.Tours.{tour_steps_of}
use Rattle.rested_tours.specs.Inside.TidyTours.{IsTidyTour}
use Rattle.rested_tours.specs.Inside.ToldLegs.{told}
use Rattle.rested_tours.proofs.legs.tour_legs.Given as goal

abbrev pub invariant-loop-leg : goal.invariant-loop-leg
invariant-loop-leg l = record {
  tidy : IsTidyTour l.out.items;
  steps : tour_steps_of l.out.items ≡ told l.rest (take l.leg-index l.legs);
}
