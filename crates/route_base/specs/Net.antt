-- Timed nets as data, and their settings (source: SEA 2020).
use Rattle.std.specs.Prelude.{◌≡◌, ℕ, ◌^◌, ◌≤◌, ◌<◌, zero, suc, Option, Some, None, List, [], map, length, slice_get, All, Vec, unwrap_or}
use Rattle.std.specs.declared.alloc.Global.{Global}
use Rattle.std.specs.Option.{option_map, option_flatten, ForSome}
use Rattle.route_base.specs.Runs.{any_has, AreRuns}
use Rattle.route_base.specs.Time.{last_instant}
use Rattle.route_base.specs.Setting.{Setting, Road}
use Rattle.route_base.specs.declared.limits.TheConstants.{HEAVIEST_WEIGHT, HIGHEST_COST, LONGEST_DRIVE, MOST_NET_NODES}
use Rattle.route_base.specs.declared.types.TimedArc.{TimedArc}
use Rattle.route_base.specs.declared.types.Park.{Park}
use Rattle.route_base.specs.declared.types.Run.{Run}
use Rattle.route_base.specs.declared.types.Request.{Request}

-- nodes from 1 to nodes, arcs and parks by number; arcs and parks name their lists of closed runs by place
pub record Net : Type 0 where
  pub nodes : ℕ
  pub arcs : List TimedArc
  pub closed : List (List Run)
  pub parks : List (Option Park)

-- the net of a list of arcs, lists of closed runs and parks
abbrev pub net_from : ℕ → List TimedArc → List (Vec Run Global) → List (Option Park) → Net
net_from nodes arcs closed parks = record { nodes = nodes; arcs = arcs; closed = map (λ v. v.items) closed; parks = parks }

-- the arc without its closures
abbrev pub road_of : TimedArc → Road
road_of a = record { tail = a.tail.0; head = a.head.0; minutes = a.minutes; cost = a.cost }

-- the item at a place that is counted from 1
abbrev pub at_number : {A : Type 0} → List A → ℕ → Option A
at_number xs zero = None
at_number xs (suc k) = slice_get xs k

-- the runs in which the arc is closed
abbrev pub runs_of : Net → TimedArc → List Run
runs_of net a = unwrap_or (slice_get net.closed a.closed) []

-- the runs in which the arc of this number is closed, if there is one
abbrev pub runs_by : Net → Option TimedArc → List Run
runs_by net None = []
runs_by net (Some a) = runs_of net a

abbrev pub runs_at : Net → ℕ → List Run
runs_at net a = runs_by net (at_number net.arcs a)

-- the park at a node, or none
abbrev pub park_at : Net → ℕ → Option Park
park_at net v = option_flatten (at_number net.parks v)

-- the runs in which waiting at the park is shut
abbrev pub shut_by : Net → Option Park → List Run
shut_by net None = []
shut_by net (Some park) = unwrap_or (slice_get net.closed park.shut) []

abbrev pub shut_runs_at : Net → ℕ → List Run
shut_runs_at net v = shut_by net (park_at net v)

-- the setting that the net is
abbrev pub setting_of : Net → Setting
setting_of net = record {
  nodes = net.nodes;
  arcs = length net.arcs;
  road = λ a. option_map road_of (at_number net.arcs a);
  shut = λ a t. any_has (runs_at net a) t;
  weight = λ v. option_map (λ park. park.weight) (park_at net v);
  wait_shut = λ v t. any_has (shut_runs_at net v) t;
}

-- each arc has its ends among the nodes, a length, a cost and a list of closed runs
pub record IsGoodArc (net : Net) (a : TimedArc) : Type 0 where
  pub tail : (1 ≤ a.tail.0) × (a.tail.0 ≤ net.nodes)
  pub head : (1 ≤ a.head.0) × (a.head.0 ≤ net.nodes)
  pub minutes : (1 ≤ a.minutes) × (a.minutes ≤ LONGEST_DRIVE)
  pub cost : a.cost ≤ HIGHEST_COST
  pub closed : a.closed < length net.closed

-- a rated node has a weight that isn't too large, and a list of the runs in which waiting is shut
pub record IsGoodPark (net : Net) (park : Park) : Type 0 where
  pub weight : park.weight ≤ HEAVIEST_WEIGHT
  pub shut : park.shut < length net.closed

-- a well-formed net
pub record IsGoodNet (net : Net) : Type 0 where
  pub nodes : net.nodes ≤ MOST_NET_NODES
  pub arcs : length net.arcs < 2 ^ 32
  pub closed : length net.closed < 2 ^ 32
  pub parks : length net.parks ≡ net.nodes
  pub each_arc : All (IsGoodArc net) net.arcs
  pub each_runs : All AreRuns net.closed
  pub each_park : All (λ o. ForSome o (IsGoodPark net)) net.parks

-- a request between nodes of the net, at instants
pub record IsGoodRequest (net : Net) (r : Request) : Type 0 where
  pub origin : (1 ≤ r.origin.0) × (r.origin.0 ≤ net.nodes)
  pub goal : (1 ≤ r.goal.0) × (r.goal.0 ≤ net.nodes)
  pub depart : r.depart ≤ last_instant
  pub until : r.until ≤ last_instant
