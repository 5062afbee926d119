-- Tidy legs of tours, which grow at their end: waits are not empty and no two are neighbours (source: own; no law).
use Rattle.std.specs.Prelude.{ℕ, ◌+◌, ◌<◌, ◌^◌, List, length}
use Rattle.stop_tour.specs.Tours.{tour_steps_of, HasNoEmptyTourWait, HasNoNeighbouringTourWaits}
use Rattle.stop_tour.specs.declared.stops.TourLeg.{TourLeg}

-- no leg is an empty wait, and no two waits are neighbours
pub record IsTidyTour (legs : List TourLeg) : Type 0 where
  pub no_empty_wait : HasNoEmptyTourWait legs
  pub apart : HasNoNeighbouringTourWaits legs

-- the legs are tidy, and with this many steps more their number is far below 64 bits
pub record HasTourRoom (legs : List TourLeg) (more : ℕ) : Type 0 where
  pub tidy : IsTidyTour legs
  pub short : length (tour_steps_of legs) + more < 2 ^ 63
