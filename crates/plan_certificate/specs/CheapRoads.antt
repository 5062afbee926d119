-- Roads that cost no more than the longest drive and a toll (source: own).
use Rattle.std.specs.Prelude.{◌≡◌, ℕ, ◌+◌, ◌*◌, ◌≤◌, Some}
use Rattle.route_base.specs.Setting.{Setting, Road}
use Rattle.route_base.specs.declared.limits.TheConstants.{COST_OF_MINUTE, HIGHEST_TOLL, LONGEST_DRIVE}

-- each road costs at most the cost of the longest drive and the highest toll: 10,180,000 thousandths
abbrev pub HasCheapRoads : Setting → Type 0
HasCheapRoads s = (a : ℕ) (road : Road) → s.road a ≡ Some road → road.cost ≤ COST_OF_MINUTE * LONGEST_DRIVE + HIGHEST_TOLL
