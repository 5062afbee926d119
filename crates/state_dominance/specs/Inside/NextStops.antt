-- What is known behind the next stop, and which costs lead to more there on every way (source: own; no law).
use Rattle.std.specs.Prelude.{◌≡◌, ℕ, suc, ◌+◌, ◌*◌, ◌-◌, ◌≤◌, ◌<◌, Option, Some, length, slice_get}
use Rattle.route_base.specs.Setting.{Setting, Road}
use Rattle.route_base.specs.declared.types.Bound.{Bound}
use Rattle.propagation.specs.Inside.Invariants.{Progress}
use Rattle.state_dominance.specs.Inside.Product.{Ruler, Service, code}

-- where each minute has a price, which no wait is below: by node and stage no more than what any way to the next stop costs above it
pub record AreReducedSums (s : Setting) (r : Ruler) (price : ℕ) (sum : ℕ → ℕ → ℕ) : Type 0 where
  pub waits : (v weight : ℕ) → s.weight v ≡ Some weight → price ≤ weight
  pub drives : (i a : ℕ) (over : Road) → i < length r.services → s.road a ≡ Some over
      → sum over.tail i + price * over.minutes ≤ over.cost + sum over.head i
  pub stops : (i : ℕ) (c : Service) → slice_get r.services i ≡ Some c → sum c.node i ≡ 0

-- from node v in state k at minute t a way to the goal may end the next service at minute u
pub record MayEnd (r : Ruler) (until : ℕ) (bound : ℕ → ℕ → Option Bound) (latest : ℕ → ℕ) (c : Service) (v k t u : ℕ) : Type 0 where
  pub begun : c.from + c.minutes ≤ u
  pub since : t + c.minutes ≤ u
  pub closed : u ≤ c.to
  pub over : u ≤ until
  pub way : (most : ℕ) (b : Bound) → bound v k ≡ Some b
      → ((n : ℕ) (d : Bound) → r.stage n ≡ suc (r.stage k) → bound c.node n ≡ Some d → d.minutes ≤ most)
      → t + b.minutes ≤ u + most
  pub late : (d : Bound) → bound c.node (r.best (suc (r.stage k))) ≡ Some d → u + d.minutes ≤ latest (r.best (suc (r.stage k)))

-- at each such minute the best state behind the service is known for less than any way from cost x comes there for: with the price of the minutes
-- that are left, it costs at most so much, which is less than that of x with its reduced sum, without the price of the service
pub record IsOutdone (r : Ruler) (base until : ℕ) (bound : ℕ → ℕ → Option Bound) (latest : ℕ → ℕ) (now : Progress) (price : ℕ) (sum : ℕ → ℕ → ℕ)
    (c : Service) (v k t x : ℕ) : Type 0 where
  pub most : ℕ
  pub known : (u : ℕ) → MayEnd r until bound latest c v k t u
      → (y : ℕ) × (now.cost (code base c.node (r.best (suc (r.stage k)))) u ≡ Some y) × (y + price * (until - u) ≤ most)
  pub above : most + price * c.minutes < x + price * (until - t) + sum v (r.stage k)
