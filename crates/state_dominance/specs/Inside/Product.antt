-- The setting over states: a ruler says what a driver may do, and its states go along with the nodes (source: own; no law).
use Rattle.std.specs.Prelude.{◌≡◌, ◌⊎◌, ℕ, zero, suc, ◌+◌, ◌*◌, ◌/◌, ◌%◌, ◌<◌, ◌≤◌, ◌&&◌, ◌||◌, Bool, true, nat_eq, nat_lt, nat_le, Option, Some, None, List, length, slice_get}
use Rattle.route_base.specs.Setting.{Setting, Road}
use Rattle.route_base.specs.declared.types.Bound.{Bound}
use Rattle.state_dominance.specs.Inside.Dominance.{Task}

-- a service at a node, of so many minutes, of which none is before `from`, and which end by `to`
pub record Service : Type 0 where
  pub node : ℕ
  pub minutes : ℕ
  pub from : ℕ
  pub to : ℕ

-- states, of which the first is that of the start; what a drive of some minutes leads to, if it is allowed; what an unbroken wait of some
-- minutes leads to; the waits that matter; which states are no worse than which; and after which a need fits: the state from which the same
-- drives, taken backwards, lead to the goal or to a rest. Then the services; what the service at a place leads to, if it is allowed; in which
-- states a trip may end; the need at the goal; what a need becomes when a service is taken backwards; the number of services that were done in
-- a state; and after so many services the state that is no worse than any
pub record Ruler : Type 0 where
  pub first : ℕ
  pub drive : ℕ → ℕ → Option ℕ
  pub rest : ℕ → ℕ → ℕ
  pub rests : List ℕ
  pub no_worse : ℕ → ℕ → Bool
  pub fits : ℕ → ℕ → Bool
  pub services : List Service
  pub serve : ℕ → ℕ → Option ℕ
  pub ends : ℕ → Bool
  pub last : ℕ
  pub unserve : ℕ → ℕ → Option ℕ
  pub stage : ℕ → ℕ
  pub best : ℕ → ℕ

-- whatever a state allows, each that is no worse allows too, and leads to what is no worse; it has the smaller number
pub record IsSimulating (r : Ruler) : Type 0 where
  pub same : (k : ℕ) → r.no_worse k k ≡ true
  pub on : (i j k : ℕ) → r.no_worse i j ≡ true → r.no_worse j k ≡ true → r.no_worse i k ≡ true
  pub low : (j k : ℕ) → r.no_worse j k ≡ true → j ≤ k
  pub drive : (j k minutes next : ℕ) → r.no_worse j k ≡ true → r.drive k minutes ≡ Some next
      → (n : ℕ) × (r.drive j minutes ≡ Some n) × (r.no_worse n next ≡ true)
  pub rest : (j k minutes : ℕ) → r.no_worse j k ≡ true → r.no_worse (r.rest j minutes) (r.rest k minutes) ≡ true
  pub serve : (j k i next : ℕ) → r.no_worse j k ≡ true → r.serve k i ≡ Some next
      → (n : ℕ) × (r.serve j i ≡ Some n) × (r.no_worse n next ≡ true)
  pub ends : (j k : ℕ) → r.no_worse j k ≡ true → r.ends k ≡ true → r.ends j ≡ true

-- what fits goes on over drives, rests and services, taken backwards, and fits what is no worse, as does a need that is no worse; what is no
-- worse than the need at the goal fits where a trip may end
pub record IsFitting (r : Ruler) : Type 0 where
  pub last : (k n : ℕ) → r.ends k ≡ true → r.no_worse n r.last ≡ true → r.fits k n ≡ true
  pub falls : (j k n : ℕ) → r.no_worse j k ≡ true → r.fits k n ≡ true → r.fits j n ≡ true
  pub lowers : (k n o : ℕ) → r.no_worse o n ≡ true → r.fits k n ≡ true → r.fits k o ≡ true
  pub drive : (k next minutes n : ℕ) → r.drive k minutes ≡ Some next → r.fits next n ≡ true
      → (m : ℕ) × (r.drive n minutes ≡ Some m) × ((o : ℕ) → r.no_worse o m ≡ true → r.fits k o ≡ true)
  pub rest : (k minutes n o : ℕ) → r.fits (r.rest k minutes) n ≡ true → r.no_worse o (r.rest n minutes) ≡ true → r.fits k o ≡ true
  pub serve : (k i next n : ℕ) → r.serve k i ≡ Some next → r.fits next n ≡ true
      → (m : ℕ) × (r.unserve n i ≡ Some m) × ((o : ℕ) → r.no_worse o m ≡ true → r.fits k o ≡ true)

-- services are done in their order, and the stage tells how many: drives and rests keep it, as does what is no worse, and what fits has the
-- stage of its need
pub record IsStaged (r : Ruler) : Type 0 where
  pub drive : (k minutes next : ℕ) → r.drive k minutes ≡ Some next → r.stage next ≡ r.stage k
  pub rest : (k minutes : ℕ) → r.stage (r.rest k minutes) ≡ r.stage k
  pub serve : (k i next : ℕ) → r.serve k i ≡ Some next → (r.stage k ≡ i) × (r.stage next ≡ suc i)
  pub ends : (k : ℕ) → r.ends k ≡ true → r.stage k ≡ length r.services
  pub falls : (j k : ℕ) → r.no_worse j k ≡ true → r.stage j ≡ r.stage k
  pub fits : (k n : ℕ) → r.fits k n ≡ true → r.stage n ≡ r.stage k

-- the best state after so many services is no worse than any other after as many
pub record HasBest (r : Ruler) : Type 0 where
  pub best : (k : ℕ) → r.no_worse (r.best (r.stage k)) k ≡ true

-- the code of a node and a state, where nodes are below the base
abbrev pub code : ℕ → ℕ → ℕ → ℕ
code base v k = k * base + v

-- a drive over this road in a state, which leads to another or is forbidden
abbrev pub driven_to : Ruler → ℕ → ℕ → Road → Option ℕ → Option Road
driven_to r base k over None = None
driven_to r base k over (Some next) =
    Some (record { tail = code base over.tail k; head = code base over.head next; minutes = over.minutes; cost = over.cost })

-- a drive over a road in a state
abbrev pub driven_by : Ruler → ℕ → ℕ → Option Road → Option Road
driven_by r base k None = None
driven_by r base k (Some over) = driven_to r base k over (r.drive k over.minutes)

-- a rest at a node in a state
abbrev pub rested_by : Ruler → ℕ → ℕ → ℕ → Option ℕ → Option ℕ → Option Road
rested_by r base v k None weight = None
rested_by r base v k (Some minutes) None = None
rested_by r base v k (Some minutes) (Some weight) =
    Some (record { tail = code base v k; head = code base v (r.rest k minutes); minutes = minutes; cost = minutes * weight })

-- a service in a state, at its node, which leads to another or is forbidden
abbrev pub served_to : ℕ → ℕ → Service → Option ℕ → Option Road
served_to base k c None = None
served_to base k c (Some next) =
    Some (record { tail = code base c.node k; head = code base c.node next; minutes = c.minutes; cost = 0 })

-- the service at a place in a state
abbrev pub served_by : Ruler → ℕ → ℕ → ℕ → Option Service → Option Road
served_by r base i k None = None
served_by r base i k (Some c) = served_to base k c (r.serve k i)

-- the minutes that are outside of a service's window
abbrev pub shut_for : Option Service → ℕ → Bool
shut_for None t = true
shut_for (Some c) t = nat_lt t c.from || nat_le c.to t

-- numbers of roads are read by their kind: a drive over arc a in state k, rest i at node v in state k, or service i in state k
abbrev pub road_by : Setting → Ruler → ℕ → ℕ → ℕ → ℕ → ℕ → Option Road
road_by s r base zero a v k = driven_by r base k (s.road a)
road_by s r base (suc zero) i v k = rested_by r base v k (slice_get r.rests i) (s.weight v)
road_by s r base (suc (suc n)) i v k = served_by r base i k (slice_get r.services i)

abbrev pub shut_by : Setting → Ruler → ℕ → ℕ → ℕ → ℕ → Bool
shut_by s r zero a v t = s.shut a t
shut_by s r (suc zero) i v t = s.wait_shut v t
shut_by s r (suc (suc n)) i v t = shut_for (slice_get r.services i) t

-- the number of a road: its kind, its arc, rest or service, its node and its state
abbrev pub road_code : ℕ → ℕ → ℕ → ℕ → ℕ → ℕ
road_code base kind a v k = ((k * base + v) * base + a) * 3 + kind

abbrev pub road_at : Setting → Ruler → ℕ → ℕ → Option Road
road_at s r base x = road_by s r base (x % 3) (x / 3 % base) (x / 3 / base % base) (x / 3 / base / base)

-- the setting over states
abbrev pub product : Setting → Ruler → ℕ → Setting
product s r base = record {
  nodes = s.nodes;
  arcs = s.arcs;
  road = road_at s r base;
  shut = λ x t. shut_by s r (x % 3) (x / 3 % base) (x / 3 / base % base) t;
  weight = λ c. s.weight (c % base);
  wait_shut = λ c t. s.wait_shut (c % base) t;
}

-- the numbers of nodes, arcs, rests and services are below the base, and each drive, rest and service takes a minute
pub record IsBase (s : Setting) (r : Ruler) (base : ℕ) : Type 0 where
  pub arcs : (a : ℕ) (road : Road) → s.road a ≡ Some road → (a < base) × (road.tail < base) × (road.head < base)
  pub rests : (i minutes : ℕ) → slice_get r.rests i ≡ Some minutes → i < base
  pub nodes : (v weight : ℕ) → s.weight v ≡ Some weight → v < base
  pub services : (i : ℕ) (c : Service) → slice_get r.services i ≡ Some c → (i < base) × (c.node < base)
  pub arc_times : (a : ℕ) (road : Road) → s.road a ≡ Some road → 1 ≤ road.minutes
  pub rest_times : (i minutes : ℕ) → slice_get r.rests i ≡ Some minutes → 1 ≤ minutes
  pub service_times : (i : ℕ) (c : Service) → slice_get r.services i ≡ Some c → 1 ≤ c.minutes

-- no state that is no worse has a larger bound; they are no larger than the way over any road, rest or service, and nothing where a trip may
-- end at the goal
pub record AreRuledBounds (s : Setting) (r : Ruler) (goal : ℕ) (bound : ℕ → ℕ → Option Bound) : Type 0 where
  pub at_goal : (k : ℕ) → r.ends k ≡ true → bound goal k ≡ Some (record { minutes = 0; cost = 0 })
  pub falls : (v j k : ℕ) (b : Bound) → r.no_worse j k ≡ true → bound v k ≡ Some b
      → (d : Bound) × (bound v j ≡ Some d) × (d.minutes ≤ b.minutes) × (d.cost ≤ b.cost)
  pub drives : (a k next : ℕ) (over : Road) (h : Bound) → s.road a ≡ Some over → r.drive k over.minutes ≡ Some next → bound over.head next ≡ Some h
      → (b : Bound) × (bound over.tail k ≡ Some b) × (b.minutes ≤ over.minutes + h.minutes) × (b.cost ≤ over.cost + h.cost)
  pub rests : (i v k minutes weight : ℕ) (h : Bound) → slice_get r.rests i ≡ Some minutes → s.weight v ≡ Some weight
      → bound v (r.rest k minutes) ≡ Some h
      → (b : Bound) × (bound v k ≡ Some b) × (b.minutes ≤ minutes + h.minutes) × (b.cost ≤ minutes * weight + h.cost)
  pub serves : (i k next : ℕ) (c : Service) (h : Bound) → slice_get r.services i ≡ Some c → r.serve k i ≡ Some next → bound c.node next ≡ Some h
      → (b : Bound) × (bound c.node k ≡ Some b) × (b.minutes ≤ c.minutes + h.minutes) × (b.cost ≤ h.cost)

-- for each state the latest minute at which the bounds may lead to the goal: where a trip may end it is the last minute; it doesn't rise over
-- drives and rests, taken backwards, nor for what is worse; and before a service it is that behind it, or it leaves time for the service's
-- whole window
pub record AreLatest (r : Ruler) (until : ℕ) (bound : ℕ → ℕ → Option Bound) (latest : ℕ → ℕ) : Type 0 where
  pub low : (k : ℕ) → latest k ≤ until
  pub ends : (k : ℕ) → r.ends k ≡ true → latest k ≡ until
  pub falls : (j k : ℕ) → r.no_worse j k ≡ true → latest k ≤ latest j
  pub drives : (k minutes next : ℕ) → r.drive k minutes ≡ Some next → latest next ≤ latest k
  pub rests : (k minutes : ℕ) → latest (r.rest k minutes) ≤ latest k
  pub serves : (i k next : ℕ) (c : Service) (h : Bound) → slice_get r.services i ≡ Some c → r.serve k i ≡ Some next → bound c.node next ≡ Some h
      → (latest next ≤ latest k) ⊎ (c.to + h.minutes ≤ latest k)

-- the search over states, each with its latest minute
abbrev pub task_by_latest : Setting → Ruler → ℕ → ℕ → ℕ → ℕ → ℕ → (ℕ → ℕ → Option Bound) → (ℕ → ℕ) → Task
task_by_latest s r base origin goal depart until bound latest = record {
  setting = product s r base;
  until = until;
  start = record { node = code base origin r.first; minute = depart; cost = 0 };
  goal = λ c. nat_eq (c % base) goal && r.ends (c / base);
  bounds = λ c. bound (c % base) (c / base);
  latest = λ c. latest (c / base);
  no_worse = λ c d. nat_eq (c % base) (d % base) && r.no_worse (c / base) (d / base);
}

-- the same, where that of each is the last minute
abbrev pub task_over : Setting → Ruler → ℕ → ℕ → ℕ → ℕ → ℕ → (ℕ → ℕ → Option Bound) → Task
task_over s r base origin goal depart until bound = task_by_latest s r base origin goal depart until bound (λ k. until)
