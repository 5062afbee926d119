-- Where a cost comes from (source: own; no law).
use Rattle.std.specs.Prelude.{◌≡◌, ◌≢◌, ℕ, ◌+◌, ◌≤◌, ◌<◌, Option, Some, length}
use Rattle.route_base.specs.Setting.{Setting}
use Rattle.route_base.specs.Itinerary.{Walks}
use Rattle.route_base.specs.Legs.{steps_of_leg}
use Rattle.route_base.specs.declared.types.Leg.TheVariants.{Wait}
use Rattle.route_base.specs.StepsBack.{IsFirstLeg}
use Rattle.propagation.specs.Inside.Invariants.{point}
use Rattle.itinerary_unpack.specs.declared.sources.Source.{Source}

-- a leg leads from a cost that is known at an earlier minute to this node and minute, at exactly this cost
pub record ComesFrom (s : Setting) (until : ℕ) (cost : ℕ → ℕ → Option ℕ) (v t x : ℕ) (from : Source) : Type 0 where
  pub before : ℕ
  pub known : cost from.node.0 from.minute ≡ Some before
  pub earlier : from.minute < t
  pub some : from.leg ≢ Wait 0
  pub short : length (steps_of_leg from.leg) + from.minute ≤ t
  pub walk : Walks s until (steps_of_leg from.leg) (point from.node.0 from.minute before) (point v t x)

-- the same by the leg that is the first of those that lead here
pub record ComesFirst (s : Setting) (until : ℕ) (cost : ℕ → ℕ → Option ℕ) (v t x : ℕ) (from : Source) : Type 0 where
  pub comes : ComesFrom s until cost v t x from
  pub first : IsFirstLeg s until cost (point v t x) from.leg
