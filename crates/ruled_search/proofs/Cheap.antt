-- Costs over states where no minute is dear: a rest costs its waits, and a service nothing.
use Rattle.std.proofs.Common.{◌≡◌, ◌⊎◌, ⊎_elim, ◌+◌, ◌*◌, ◌≤◌, ◌%◌, ℕ, Some, arith}
use Rattle.std.proofs.lemmas.Nat.{mul-le}
use Rattle.route_base.specs.Setting.{Setting, Road}
use Rattle.route_base.specs.declared.limits.TheConstants.{DEAREST_MINUTE, HEAVIEST_WEIGHT, LONGEST_HORIZON}
use Rattle.route_base.specs.declared.types.Request.{Request}
use Rattle.route_base.proofs.Costs.{IsCheap, fits}
use Rattle.state_dominance.specs.Inside.Product.{Ruler, code, product}
use Rattle.state_dominance.proofs.Roads.{IsDriveRoad, IsRestRoad, IsServiceRoad, road_kinds}
use Rattle.ruled_search.specs.Routes.{RuledCostsFit}

module _ (s : Setting) (r : Ruler) (base : ℕ) (cheap : IsCheap s) where
  cheap_road : (x : ℕ) (road : Road) → (product s r base).road x ≡ Some road → road.cost ≤ DEAREST_MINUTE * road.minutes
  cheap_road x road is = ⊎_elim
      (λ (d : IsDriveRoad s r base x road). omega (arith, cheap.each_road d.arc d.over d.is, d.minutes, d.cost))
      (λ (other : IsRestRoad s r base x road ⊎ IsServiceRoad s r base x road). ⊎_elim
      (λ (d : IsRestRoad s r base x road).
      let paid = mul-le d.rest d.weight d.rest HEAVIEST_WEIGHT (omega arith) (cheap.each_weight d.node d.weight d.rated) in
      omega (arith, paid, d.minutes, d.cost))
      (λ (d : IsServiceRoad s r base x road). omega (arith, d.cost))
      other)
      (road_kinds s r base x road is)

  pub ruled_fit : (request : Request) → request.depart ≤ request.until → request.until ≤ request.depart + LONGEST_HORIZON → RuledCostsFit s r base request
  ruled_fit request in_order short steps p walk =
      let first : Request = record {
        origin = record { 0 = code base request.origin.0 r.first };
        goal = request.goal;
        depart = request.depart;
        until = request.until;
      } in
      fits (product s r base) first (record { each_road = cheap_road; each_weight = λ c weight rated. cheap.each_weight (c % base) weight rated })
      in_order short steps p walk
