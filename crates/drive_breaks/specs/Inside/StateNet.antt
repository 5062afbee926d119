-- The net over states: each state is a node, each drive and each break an arc (source: own; no law).
use Rattle.std.specs.Prelude.{◌≡◌, ◌⊎◌, ℕ, ◌+◌, ◌*◌, ◌≤◌, Some, None, List, [], ◌∷◌, ◌++◌, length, map, Contains}
use Rattle.route_base.specs.Setting.{Setting, Road}
use Rattle.route_base.specs.Net.{Net, at_number, park_at, IsGoodPark}
use Rattle.route_base.specs.declared.types.ArcId.{ArcId}
use Rattle.route_base.specs.declared.types.Leg.{Leg}
use Rattle.route_base.specs.declared.types.Leg.TheVariants.{Drive, Wait}
use Rattle.route_base.specs.declared.types.Park.{Park}
use Rattle.route_base.specs.declared.types.TimedArc.{TimedArc}
use Rattle.drive_states.specs.declared.rule.BreakRule.{BreakRule}
use Rattle.drive_states.specs.declared.rule.State.{State}
use Rattle.drive_states.specs.declared.rule.Way.{Way}

-- this road over states is a drive from the state, which ends in a state or in the node behind all states
pub record IsDriveWay (s z : Setting) (rule : BreakRule) (goal : ℕ) (states : List State) (from : State) (x : ℕ) (road : Road) (leg : Leg) : Type 0 where
  pub arc : ArcId
  pub is_leg : leg ≡ Drive arc
  pub over : Road
  pub is : s.road arc.0 ≡ Some over
  pub tail : over.tail ≡ from.node.0
  pub within : from.driven + over.minutes ≤ rule.drive
  pub minutes : road.minutes ≡ over.minutes
  pub cost : road.cost ≡ over.cost
  pub shut : (t : ℕ) → z.shut x t ≡ s.shut arc.0 t
  pub head : ((to : State) × (at_number states road.head ≡ Some to) × (to.node.0 ≡ over.head) × (to.driven ≡ from.driven + over.minutes))
      ⊎ ((road.head ≡ length states + 1) × (over.head ≡ goal))

-- this road over states is a break at the state
pub record IsBreakWay (s z : Setting) (rule : BreakRule) (states : List State) (from : State) (x : ℕ) (road : Road) (leg : Leg) : Type 0 where
  pub is_leg : leg ≡ Wait rule.rest
  pub weight : ℕ
  pub rated : s.weight from.node.0 ≡ Some weight
  pub minutes : road.minutes ≡ rule.rest
  pub cost : road.cost ≡ rule.rest * weight
  pub shut : (t : ℕ) → z.shut x t ≡ s.wait_shut from.node.0 t
  pub to : State
  pub head : at_number states road.head ≡ Some to
  pub node : to.node.0 ≡ from.node.0
  pub none : to.driven ≡ 0

-- a road over states
pub record IsWay (s z : Setting) (rule : BreakRule) (goal : ℕ) (states : List State) (sources : List Leg) (x : ℕ) (road : Road) : Type 0 where
  pub from : State
  pub tail : at_number states road.tail ≡ Some from
  pub leg : Leg
  pub source : at_number sources x ≡ Some leg
  pub way : IsDriveWay s z rule goal states from x road leg ⊎ IsBreakWay s z rule states from x road leg

-- a drive from the state with this number that is within the rule
pub record CanDrive (s : Setting) (rule : BreakRule) (states : List State) (i a : ℕ) (from : State) (over : Road) : Type 0 where
  pub at : at_number states i ≡ Some from
  pub is : s.road a ≡ Some over
  pub tail : over.tail ≡ from.node.0
  pub within : from.driven + over.minutes ≤ rule.drive

-- a road over states from i to j with these minutes and this cost
pub record HasRoad (z : Setting) (i j minutes cost : ℕ) : Type 0 where
  pub x : ℕ
  pub is : z.road x ≡ Some (record { tail = i; head = j; minutes = minutes; cost = cost })

-- z is the net over these states, with the node behind all states for the goal
pub record IsStateNet (s z : Setting) (rule : BreakRule) (origin goal : ℕ) (states : List State) (sources : List Leg) : Type 0 where
  pub first : State
  pub at_first : at_number states 1 ≡ Some first
  pub first_node : first.node.0 ≡ origin
  pub first_driven : first.driven ≡ 0
  pub ways : (x : ℕ) (road : Road) → z.road x ≡ Some road → IsWay s z rule goal states sources x road
  pub weights : (i : ℕ) (from : State) → at_number states i ≡ Some from → z.weight i ≡ s.weight from.node.0
  pub wait_shut : (i : ℕ) (from : State) → at_number states i ≡ Some from → (t : ℕ) → z.wait_shut i t ≡ s.wait_shut from.node.0 t
  pub end : z.weight (length states + 1) ≡ None
  pub drives : (i a : ℕ) (from : State) (over : Road) → CanDrive s rule states i a from over
      → (j : ℕ) × (to : State) × (at_number states j ≡ Some to) × (to.node.0 ≡ over.head) × (to.driven ≡ from.driven + over.minutes)
      × (road : HasRoad z i j over.minutes over.cost) × ((t : ℕ) → z.shut road.x t ≡ s.shut a t)
  pub arrivals : (i a : ℕ) (from : State) (over : Road) → CanDrive s rule states i a from over → over.head ≡ goal
      → (road : HasRoad z i (length states + 1) over.minutes over.cost) × ((t : ℕ) → z.shut road.x t ≡ s.shut a t)
  pub breaks : (i weight : ℕ) (from : State) → at_number states i ≡ Some from → s.weight from.node.0 ≡ Some weight → (from.driven ≡ 0 → ⊥)
      → (j : ℕ) × (to : State) × (at_number states j ≡ Some to) × (to.node.0 ≡ from.node.0) × (to.driven ≡ 0)
      × (road : HasRoad z i j rule.rest (rule.rest * weight)) × ((t : ℕ) → z.shut road.x t ≡ s.wait_shut from.node.0 t)

-- an arc over states from one node to another for a leg: a drive as in the net, or a break, closed in the runs in which its park is shut
abbrev pub IsArcFor : Net → List State → ℕ → ℕ → Leg → TimedArc → Type 0
IsArcFor net states from to (Drive a) arc = (base : TimedArc) × (at_number net.arcs a.0 ≡ Some base)
    × (arc ≡ record { tail = record { 0 = from }; head = record { 0 = to }; minutes = base.minutes; cost = base.cost; closed = base.closed })
IsArcFor net states from to (Wait k) arc = (state : State) × (at_number states from ≡ Some state)
    × (park : Park) × (park_at net state.node.0 ≡ Some park) × IsGoodPark net park
    × (arc ≡ record { tail = record { 0 = from }; head = record { 0 = to }; minutes = k; cost = k * park.weight; closed = park.shut })

-- the way is a drive to the goal
abbrev pub Arrives : List State → ℕ → Way → Type 0
Arrives states goal way = ((a : ArcId) × (way.leg ≡ Drive a)) × ((to : State) × (at_number states way.to ≡ Some to) × (to.node.0 ≡ goal))

-- the arc is that of one of the ways, or its copy to the node behind all states
pub record IsBuiltArc (net : Net) (states : List State) (goal : ℕ) (ways : List Way) (arc : TimedArc) (leg : Leg) : Type 0 where
  pub way : Way
  pub is_one : Contains ways way
  pub by : way.leg ≡ leg
  pub made : IsArcFor net states way.from way.to way.leg arc
      ⊎ (IsArcFor net states way.from (length states + 1) way.leg arc × Arrives states goal way)

-- the ways have their arcs, and those to the goal their copies, and there is no other arc
pub record AreBuilt (net : Net) (states : List State) (goal : ℕ) (ways : List Way) (arcs : List TimedArc) (sources : List Leg) : Type 0 where
  pub same : length sources ≡ length arcs
  pub long : length arcs ≤ 2 * length ways
  pub each : (x : ℕ) (arc : TimedArc) → at_number arcs x ≡ Some arc
      → (leg : Leg) × (at_number sources x ≡ Some leg) × IsBuiltArc net states goal ways arc leg
  pub all : (way : Way) → Contains ways way → (x : ℕ) × (arc : TimedArc) × (at_number arcs x ≡ Some arc)
      × IsArcFor net states way.from way.to way.leg arc
  pub copies : (way : Way) → Contains ways way → Arrives states goal way → (x : ℕ) × (arc : TimedArc) × (at_number arcs x ≡ Some arc)
      × IsArcFor net states way.from (length states + 1) way.leg arc

-- the way's arc is added, and its copy where it arrives
abbrev pub AddsWay : Net → List State → ℕ → Way → List TimedArc → List TimedArc → List Leg → List Leg → Type 0
AddsWay net states goal way arcs new_arcs sources new_sources = (arc : TimedArc) × IsArcFor net states way.from way.to way.leg arc
    × (((Arrives states goal way → ⊥) × (new_arcs ≡ arcs ++ arc ∷ []) × (new_sources ≡ sources ++ way.leg ∷ []))
    ⊎ (Arrives states goal way × (copy : TimedArc) × IsArcFor net states way.from (length states + 1) way.leg copy
    × (new_arcs ≡ (arcs ++ arc ∷ []) ++ copy ∷ []) × (new_sources ≡ (sources ++ way.leg ∷ []) ++ way.leg ∷ [])))

-- the net with these arcs over states, and the node behind them, where no one waits, with the old lists of closed runs
abbrev pub net_over : Net → List State → List TimedArc → Net
net_over net states arcs = record {
  nodes = length states + 1;
  arcs = arcs;
  closed = net.closed;
  parks = map (λ st. park_at net st.node.0) states ++ None ∷ [];
}
