-- Sound tables: the invariant of the forward pass (source: own; no law).
use Rattle.std.specs.Prelude.{ℕ, ◌+◌, ◌≤◌, ◌<◌}
use Rattle.route_base.specs.Legs.{CostsFit}
use Rattle.route_base.specs.Net.{Net, IsGoodRequest, setting_of}
use Rattle.route_base.specs.declared.types.Request.{Request}
use Rattle.plain_search.specs.Inside.Costs.{none, ComesBySteps, IsRelaxedBefore}
use Rattle.plain_search.specs.Inside.CostTable.{cost_of, HasShape}
use Rattle.plain_search.specs.declared.cost_table.CostTable.{CostTable}

-- the request fits the net, and no lawful walk from its origin is too dear for 64 bits
pub record IsAsked (net : Net) (r : Request) : Type 0 where
  pub ends : IsGoodRequest net r
  pub in_time : r.depart ≤ r.until
  pub fit : CostsFit (setting_of net) r

-- the table has the net's nodes and the request's minutes, and its costs come by lawful steps from minutes before now
pub record IsSoundTable (net : Net) (r : Request) (now : ℕ) (table : CostTable) : Type 0 where
  pub shape : HasShape net.nodes r.depart r.until table
  pub founded : ComesBySteps (setting_of net) r (cost_of table) now

-- the table is sound, and each step from each minute of the request is relaxed
pub record IsFinalTable (net : Net) (r : Request) (table : CostTable) : Type 0 where
  pub sound : IsSoundTable net r (r.until + 1) table
  pub relaxed : IsRelaxedBefore (setting_of net) r.until (cost_of table) (r.until + 1)

-- the node is one of the net
pub record IsNode (net : Net) (v : ℕ) : Type 0 where
  pub low : 1 ≤ v
  pub high : v ≤ net.nodes

-- the minute is one of the request
pub record IsMinute (r : Request) (t : ℕ) : Type 0 where
  pub from : r.depart ≤ t
  pub upto : t ≤ r.until

-- the node is one of the net, and its cost at this minute of the request is known
pub record IsReached (net : Net) (r : Request) (table : CostTable) (v t : ℕ) : Type 0 where
  pub low : 1 ≤ v
  pub high : v ≤ net.nodes
  pub from : r.depart ≤ t
  pub upto : t ≤ r.until
  pub known : cost_of table v t < none

-- the table is sound, and it has a label for the node at this minute
pub record HasSoundLabel (net : Net) (r : Request) (now : ℕ) (table : CostTable) (v t : ℕ) : Type 0 where
  pub sound : IsSoundTable net r now table
  pub reached : IsReached net r table v t
