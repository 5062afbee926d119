-- What drives of a reached part end with is reached.
use Rattle.std.proofs.Common.{◌≡◌, ℕ, Option, Some, List, [], ◌∷◌, ◌++◌}
use Rattle.route_base.specs.Itinerary.{drive}
use Rattle.route_base.specs.declared.types.Pair.{Pair}
use Rattle.route_base.proofs.Walking.{walk-push}
use Rattle.propagation.specs.Inside.Invariants.{point}
use Rattle.state_dominance.specs.Inside.Dominance.{Task, Reaches}
use Rattle.state_dominance.specs.Inside.Widening.{IsDriven, IsCleared}

pub reached_clear : (k : Task) (pairs : List Pair) (x v h : ℕ) (part ends clear : ℕ → Option ℕ) → ((t y : ℕ) → part t ≡ Some y → Reaches k (point v t y))
    → IsDriven k x v part h ends → IsCleared k pairs h ends clear → (t y : ℕ) → clear t ≡ Some y → Reaches k (point h t y)
reached_clear k pairs x v h part ends clear reached driven cleared t y there =
    let d = driven.from t y (cleared.kept t y there) in
    let r = reached d.0 d.1 d.2 in
    (r.0 ++ drive x ∷ [], walk-push k.setting k.until r.0 (drive x) k.start (point v d.0 d.1) (point h t y) r.1 d.3)
