-- The legs of an itinerary that are found so far, the last first (source: own; no law).
use Rattle.std.specs.Prelude.{◌≡◌, ℕ, Option, Some, List}
use Rattle.route_base.specs.Setting.{Setting}
use Rattle.route_base.specs.Itinerary.{Step}
use Rattle.route_base.specs.declared.types.Pair.{Pair}
use Rattle.route_base.specs.declared.types.Request.{Request}
use Rattle.route_base.specs.StepsBack.{LeadsFirst}
use Rattle.propagation.specs.Inside.Invariants.{point}

-- from the cost that is known here these steps lead to the pair, as the last ones of its first itinerary
pub record LeadsToPair (s : Setting) (r : Request) (cost : ℕ → ℕ → Option ℕ) (pair : Pair) (v t : ℕ) (steps : List Step) : Type 0 where
  pub here : ℕ
  pub known : cost v t ≡ Some here
  pub leads : LeadsFirst s r pair (point v t here) steps
