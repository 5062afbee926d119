-- Pareto fronts of whatever itineraries achieve, under any order (source: SEA 2020; the general form is own).
use Rattle.std.specs.Prelude.{◌≢◌, ◌↔◌, ◌<◌, List, AllPairs, Contains}
use Rattle.route_base.specs.declared.types.Pair.{Pair}

-- these are, in this order, all that can be achieved and is such that nothing else that can be is no worse
pub record IsParetoFront {A : Type 0} (NoWorse Before : A → A → Type 0) (CanBe : A → Type 0) (items : List A) : Type 0 where
  pub ordered : AllPairs Before items
  pub each : (p : A) → Contains items p ↔ (CanBe p × ((q : A) → CanBe q → NoWorse q p × (q ≢ p) → ⊥))

-- p arrives before q
abbrev pub ArrivesBefore : Pair → Pair → Type 0
ArrivesBefore p q = p.arrival < q.arrival
