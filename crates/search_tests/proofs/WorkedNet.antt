-- The roads of the worked net cost as much as their minutes of driving, so that the costs of each request fit.
use Rattle.std.proofs.Common.{◌≡◌, ℕ, zero, suc, ◌+◌, ◌*◌, ◌≤◌, Some, subst, arith}
use Rattle.route_base.specs.Legs.{CostsFit}
use Rattle.route_base.specs.Net.{road_of, setting_of}
use Rattle.route_base.specs.Setting.{Road}
use Rattle.route_base.specs.declared.limits.TheConstants.{COST_OF_MINUTE, LONGEST_HORIZON}
use Rattle.route_base.specs.declared.types.Request.{Request}
use Rattle.route_base.proofs.Costs.{fits}
use Rattle.plan_certificate.specs.CheapRoads.{HasCheapRoads}
use Rattle.search_tests.specs.WorkedNet.{worked_arc, worked}

-- a road takes at most 300 minutes, of which none is dear
abbrev IsPlain : Road → Type 0
IsPlain road = (road.cost ≤ COST_OF_MINUTE * road.minutes) × (road.minutes ≤ 300)

each_road : (a : ℕ) (road : Road) → (setting_of worked).road a ≡ Some road → IsPlain road
each_road zero road is = absurd (cc)
each_road (suc zero) road is = let same : road_of (worked_arc 1 2 60 0) ≡ road = cc in subst IsPlain same (omega arith, omega arith)
each_road (suc (suc zero)) road is = let same : road_of (worked_arc 2 3 60 1) ≡ road = cc in subst IsPlain same (omega arith, omega arith)
each_road (suc (suc (suc zero))) road is = let same : road_of (worked_arc 1 3 300 0) ≡ road = cc in subst IsPlain same (omega arith, omega arith)
each_road (suc (suc (suc (suc k)))) road is = absurd (cc)

pub worked_cheap : HasCheapRoads (setting_of worked)
worked_cheap a road is = let plain = each_road a road is in omega (arith, plain.0, plain.1)

cheap_weight : (v w : ℕ) → (setting_of worked).weight v ≡ Some w → w ≤ 100000
cheap_weight zero w is = absurd (cc)
cheap_weight (suc zero) w is = absurd (cc)
cheap_weight (suc (suc zero)) w is = let same : 2000 ≡ w = cc in omega (arith, same)
cheap_weight (suc (suc (suc zero))) w is = absurd (cc)
cheap_weight (suc (suc (suc (suc k)))) w is = absurd (cc)

pub worked_fits : (r : Request) → r.depart ≤ r.until → r.until ≤ r.depart + LONGEST_HORIZON → CostsFit (setting_of worked) r
worked_fits r in_time short = fits (setting_of worked) r (record {
  each_road = λ a road is. omega (arith, (each_road a road is).0);
  each_weight = cheap_weight;
}) in_time short
