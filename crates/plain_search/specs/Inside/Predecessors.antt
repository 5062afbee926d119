-- Predecessors: the step by which a label comes (source: own; no law).
use Rattle.std.specs.Prelude.{◌≡◌, ◌<◌, ℕ, ⊤}
use Rattle.route_base.specs.Setting.{Setting}
use Rattle.route_base.specs.Itinerary.{Walks}
use Rattle.route_base.specs.Legs.{steps_of_leg}
use Rattle.route_base.specs.declared.types.Leg.{Leg}
use Rattle.route_base.specs.declared.types.Leg.TheVariants.{Drive, Wait}
use Rattle.plain_search.specs.Inside.Costs.{none, at}
use Rattle.plain_search.specs.declared.reconstruct.Source.{Source}

-- a leg of one step
abbrev pub IsSingle : Leg → Type 0
IsSingle (Drive a) = ⊤
IsSingle (Wait k) = k ≡ 1

-- one step leads from the source to this node and minute, at exactly its cost
pub record LeadsTo (s : Setting) (until : ℕ) (cost : ℕ → ℕ → ℕ) (v t : ℕ) (from : Source) : Type 0 where
  pub known : cost from.node.0 from.minute < none
  pub single : IsSingle from.leg
  pub earlier : from.minute < t
  pub walk : Walks s until (steps_of_leg from.leg) (at cost from.node.0 from.minute) (at cost v t)
