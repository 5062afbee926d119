-- Values: for each node and minute the least cost of the walks of lawful steps that lead there (source: SEA 2020, in whole minutes).
use Rattle.std.specs.Prelude.{◌≡◌, ◌≢◌, ◌↔◌, ℕ, ◌<◌, ◌≤◌, List, [], All, AllPairs, Contains}
use Rattle.route_base.specs.Setting.{Setting}
use Rattle.route_base.specs.Legs.{IsReachable}
use Rattle.route_base.specs.declared.limits.TheConstants.{HIGHEST_COST}
use Rattle.route_base.specs.declared.types.NodeId.{NodeId}
use Rattle.route_base.specs.declared.types.Request.{Request}

-- x is the least cost at which lawful steps lead to node v at minute t
pub record IsLeastCost (s : Setting) (r : Request) (v t x : ℕ) : Type 0 where
  pub reachable : IsReachable s r (record { node = v; minute = t; cost = x })
  pub least : (y : ℕ) → IsReachable s r (record { node = v; minute = t; cost = y }) → x ≤ y

-- the entry of node v has the minute t with the cost x
pub record HasPoint (entries : List (NodeId × List (ℕ × ℕ))) (v t x : ℕ) : Type 0 where
  pub entry : NodeId × List (ℕ × ℕ)
  pub is_one : Contains entries entry
  pub node : entry.0.0 ≡ v
  pub point : Contains entry.1 (t, x)

-- a node of the setting, with some points by rising minute, at minutes of the request and at most at the highest cost
pub record IsNodeWithPoints (s : Setting) (r : Request) (entry : NodeId × List (ℕ × ℕ)) : Type 0 where
  pub node : (1 ≤ entry.0.0) × (entry.0.0 ≤ s.nodes)
  pub some : entry.1 ≢ []
  pub rising : AllPairs (λ p q. p.0 < q.0) entry.1
  pub minutes : All (λ p. (r.depart ≤ p.0) × (p.0 ≤ r.until)) entry.1
  pub costs : All (λ p. p.1 ≤ HIGHEST_COST) entry.1

-- entries by rising node, whose points are exactly the least costs
pub record AreValues (s : Setting) (r : Request) (entries : List (NodeId × List (ℕ × ℕ))) : Type 0 where
  pub rising : AllPairs (λ d e. d.0.0 < e.0.0) entries
  pub each : All (IsNodeWithPoints s r) entries
  pub exact : (v t x : ℕ) → HasPoint entries v t x ↔ IsLeastCost s r v t x
