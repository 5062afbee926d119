-- A request with what was found for it (source: own; no law).
use Rattle.std.specs.Prelude.{ℕ, ◌≤◌, Option}
use Rattle.route_base.specs.Legs.{CostsFit}
use Rattle.route_base.specs.Net.{IsGoodRequest, setting_of}
use Rattle.route_base.specs.Setting.{Setting}
use Rattle.node_arcs.specs.Stars.{AreIncoming}
use Rattle.propagation.specs.Found.{IsFoundFor, cost_at}
use Rattle.itinerary_unpack.specs.declared.solved.Solved.{Solved}

-- the request is one over the net, the arcs are those of the net, and the finding answers the request
pub record IsSolved (solved : Solved) : Type 0 where
  pub ends : IsGoodRequest solved.net.now solved.request
  pub in_time : solved.request.depart ≤ solved.request.until
  pub fit : CostsFit (setting_of solved.net.now) solved.request
  pub incoming : AreIncoming solved.net.now solved.incoming.now
  pub found : IsFoundFor solved.net.now solved.request solved.found.now

-- the same at a node of the net, and at a minute by which the request ends
pub record IsSolvedAt (s : Solved) (v t : ℕ) : Type 0 where
  pub solved : IsSolved s
  pub low : 1 ≤ v
  pub high : v ≤ s.net.now.nodes
  pub upto : t ≤ s.request.until

-- the setting of the net
abbrev pub setting_in : Solved → Setting
setting_in solved = setting_of solved.net.now

-- the cost at a node and minute
abbrev pub solved_cost : Solved → ℕ → ℕ → Option ℕ
solved_cost solved v t = cost_at solved.found.now.functions v t
