-- Roads whose cost is in proportion to their minutes (source: own).
use Rattle.std.specs.Prelude.{◌≡◌, ℕ, ◌*◌, ⊤, Option, Some, None}
use Rattle.route_base.specs.Setting.{Road}
use Rattle.route_base.specs.declared.limits.TheConstants.{COST_OF_MINUTE}

-- the road, where there is one, costs COST_OF_MINUTE for each of its minutes
abbrev pub IsProportional : Option Road → Type 0
IsProportional None = ⊤
IsProportional (Some road) = road.cost ≡ COST_OF_MINUTE * road.minutes

-- every road does
abbrev pub AreProportional : (ℕ → Option Road) → Type 0
AreProportional roads = (a : ℕ) → IsProportional (roads a)
