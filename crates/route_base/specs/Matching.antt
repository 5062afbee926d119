-- Settings that agree within a window, so that one stands for the other (source: own).
use Rattle.std.specs.Prelude.{◌≡◌, ℕ, ◌≤◌, ◌<◌, IsSome}
use Rattle.route_base.specs.Setting.{Setting}
use Rattle.route_base.specs.declared.types.Run.{Run}
use Rattle.route_base.specs.declared.types.Request.{Request}

-- both have the same nodes, roads and weights, and at the same minutes of the window each road is shut, and waiting at each node that has a
-- weight
pub record StandsFor (s z : Setting) (window : Run) : Type 0 where
  pub nodes : s.nodes ≡ z.nodes
  pub arcs : s.arcs ≡ z.arcs
  pub road : (a : ℕ) → s.road a ≡ z.road a
  pub weight : (v : ℕ) → s.weight v ≡ z.weight v
  pub shut : (a t : ℕ) → IsSome (z.road a) → window.lo ≤ t → t < window.hi → s.shut a t ≡ z.shut a t
  pub wait_shut : (v t : ℕ) → IsSome (z.weight v) → window.lo ≤ t → t < window.hi → s.wait_shut v t ≡ z.wait_shut v t

-- the request's minutes are within the window
abbrev pub IsInWindow : Request → Run → Type 0
IsInWindow r window = (window.lo ≤ r.depart) × (r.until ≤ window.hi)
