-- Tidy legs: waits are not empty and no two are neighbours (source: own).
use Rattle.std.specs.Prelude.{ℕ, ◌+◌, ◌<◌, ◌^◌, List, length}
use Rattle.route_base.specs.Legs.{HasNoEmptyWait, HasNoNeighbouringWaits, steps_of}
use Rattle.route_base.specs.declared.types.Leg.{Leg}

-- no leg is an empty wait, and no two waits are neighbours
pub record IsTidy (legs : List Leg) : Type 0 where
  pub no_empty_wait : HasNoEmptyWait legs
  pub no_neighbours : HasNoNeighbouringWaits legs

-- the legs are tidy, and with this many steps more their number is far below 64 bits
pub record HasRoom (legs : List Leg) (more : ℕ) : Type 0 where
  pub tidy : IsTidy legs
  pub short : length (steps_of legs) + more < 2 ^ 63
