-- Tight certificates, which have nothing that the search didn't need (source: own).
use Rattle.std.specs.Prelude.{◌≡◌, ℕ, ◌+◌, ◌≤◌, Some, All}
use Rattle.route_base.specs.Itinerary.{Position}
use Rattle.route_base.specs.Legs.{IsReachable}
use Rattle.route_base.specs.Setting.{Setting}
use Rattle.route_base.specs.declared.types.Bound.{Bound}
use Rattle.route_base.specs.declared.types.Request.{Request}
use Rattle.cost_functions.specs.Pieces.{IsReduced}
use Rattle.potentials.specs.Sums.{AreLeastBounds}
use Rattle.certificate.specs.ByNode.{item_at}
use Rattle.certificate.specs.declared.Certificate.{Certificate}
use Rattle.certificate_check.specs.Conditions.{value_of}

-- bounds are exactly the least to the goal, functions are reduced, each of their values is the cost of lawful steps from the start, and from there the
-- least minutes to the goal end by the horizon
pub record IsTight (s : Setting) (r : Request) (c : Certificate) : Type 0 where
  pub bounds : AreLeastBounds s r.goal.0 (item_at c.bounds)
  pub reduced : All (λ e. IsReduced e.1) c.functions
  pub reached : (p : Position) → value_of c.functions p.node p.minute ≡ Some p.cost → IsReachable s r p
  pub in_reach : (v t x : ℕ) → value_of c.functions v t ≡ Some x
      → (b : Bound) × (item_at c.bounds v ≡ Some b) × (t + b.minutes ≤ r.until)
