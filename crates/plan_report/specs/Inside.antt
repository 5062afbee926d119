-- The facts that a writer keeps as it goes over legs; this is machinery of the proofs, and no law (source: own).
use Rattle.std.specs.Prelude.{◌≡◌, ℕ, ◌<◌, ◌^◌, ◌++◌, IsSome, List, codes, decimal}
use Rattle.route_base.specs.Setting.{Setting}
use Rattle.route_base.specs.Itinerary.{Position, Walks}
use Rattle.route_base.specs.Legs.{steps_of, HasNoEmptyWait, Achieves}
use Rattle.route_base.specs.Net.{Net, setting_of}
use Rattle.route_base.specs.Time.{IsInstant}
use Rattle.route_base.specs.declared.types.Leg.{Leg}
use Rattle.route_base.specs.declared.types.Leg.TheVariants.{Drive, Wait}
use Rattle.route_base.specs.declared.types.Request.{Request}
use Rattle.route_base.specs.declared.types.Route.{Route}
use Rattle.plan_report.specs.Stages.{position_after, road_at, Stage}
use Rattle.plan_report.specs.declared.places.Place.{Place}
use Rattle.plan_report.specs.declared.places.Stage.{Stage as StageWords}

abbrev pub position_at : Place → Position
position_at at = record { node = at.node.0; minute = at.minute; cost = at.cost }

-- these legs lead lawfully from p to q
pub record Lead (s : Setting) (until : ℕ) (legs : List Leg) (p q : Position) : Type 0 where
  pub no_empty_wait : HasNoEmptyWait legs
  pub walk : Walks s until (steps_of legs) p q

-- the arc is one of the setting and begins at p, or waiting is allowed at p
abbrev pub IsKnown : Setting → Position → Leg → Type 0
IsKnown s p (Drive a) = IsSome (s.road a.0) × ((road_at s a.0).tail ≡ p.node)
IsKnown s p (Wait k) = IsSome (s.weight p.node)

-- the leg can be travelled and written from p within the range of numbers
pub record IsPassable (s : Setting) (p : Position) (leg : Leg) : Type 0 where
  pub known : IsKnown s p leg
  pub start : IsInstant p.minute
  pub minute : IsInstant (position_after s p leg).minute
  pub cost : (position_after s p leg).cost < 2 ^ 64

-- the stage that the code holds
abbrev pub stage_in : StageWords → Stage
stage_in x = record { number = x.number; from = position_at x.from; leg = x.leg }

-- the stage leads to its end
abbrev pub LeadsOn : Setting → StageWords → Type 0
LeadsOn s x = position_at x.to ≡ position_after s (position_at x.from) x.leg

-- depart and until are instants
abbrev pub HasInstants : Request → Type 0
HasInstants r = IsInstant r.depart × IsInstant r.until

-- the route's legs are lawful over the net, and have its pair
abbrev pub IsLawful : Net → Request → Route → Type 0
IsLawful net r x = Achieves (setting_of net) r x.legs x.pair

-- the JSON text of a route up to its legs
abbrev pub json_head_text : Route → List ℕ
json_head_text route =
    codes "{\"arrival\":" ++ (decimal route.pair.arrival ++ (codes ",\"cost\":" ++ (decimal route.pair.cost ++ codes ",\"legs\":")))
