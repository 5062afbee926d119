-- The legs of a route with their numbers and the positions before them (source: own).
use Rattle.std.specs.Prelude.{ℕ, suc, ◌+◌, ◌*◌, List, [], ◌∷◌, ◌++◌, unwrap_or}
use Rattle.route_base.specs.Setting.{Setting, Road}
use Rattle.route_base.specs.Itinerary.{Position}
use Rattle.route_base.specs.Legs.{start_of}
use Rattle.route_base.specs.declared.types.Leg.{Leg}
use Rattle.route_base.specs.declared.types.Leg.TheVariants.{Drive, Wait}
use Rattle.route_base.specs.declared.types.Request.{Request}

-- the road of a number that is no arc; no lawful leg has it
abbrev pub no_road : Road
no_road = record { tail = 0; head = 0; minutes = 0; cost = 0 }

-- the road of an arc
abbrev pub road_at : Setting → ℕ → Road
road_at s a = unwrap_or (s.road a) no_road

-- the cost of a minute's wait at a node
abbrev pub price_at : Setting → ℕ → ℕ
price_at s v = unwrap_or (s.weight v) 0

-- the minutes of a leg
abbrev pub minutes_of_leg : Setting → Leg → ℕ
minutes_of_leg s (Drive a) = (road_at s a.0).minutes
minutes_of_leg s (Wait k) = k

-- the position after a leg
abbrev pub position_after : Setting → Position → Leg → Position
position_after s p (Drive a) =
    record { node = (road_at s a.0).head; minute = p.minute + (road_at s a.0).minutes; cost = p.cost + (road_at s a.0).cost }
position_after s p (Wait k) = record { node = p.node; minute = p.minute + k; cost = p.cost + k * price_at s p.node }

-- a leg, its number, and the position before it
pub record Stage : Type 0 where
  pub number : ℕ
  pub from : Position
  pub leg : Leg

-- the stages of legs from a position on, numbered from n
abbrev pub stages_from : Setting → ℕ → Position → List Leg → List Stage
stages_from s n p [] = []
stages_from s n p (leg ∷ legs) = record { number = n; from = p; leg = leg } ∷ stages_from s (suc n) (position_after s p leg) legs

-- the stages of a request's legs, numbered from 1
abbrev pub stages_of : Setting → Request → List Leg → List Stage
stages_of s r legs = stages_from s 1 (start_of r) legs

-- the texts of items that are numbered from n, one after another
abbrev pub numbered_text : {A : Type 0} → (ℕ → A → List ℕ) → ℕ → List A → List ℕ
numbered_text f n [] = []
numbered_text f n (x ∷ xs) = f n x ++ numbered_text f (suc n) xs
