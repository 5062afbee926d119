-- Ways: roads over states, from a state of a node to another, with the bound there (source: own; no law).
use Rattle.std.specs.Prelude.{◌≡◌, ◌↔◌, ℕ, ◌+◌, ◌≤◌, ◌<◌, ⊤, IsTrue, Option, Some, None, List, [], length, slice_get, unwrap_or}
use Rattle.route_base.specs.Net.{Net, at_number, park_at, setting_of}
use Rattle.route_base.specs.Open.{IsOpen}
use Rattle.route_base.specs.Runs.{any_has}
use Rattle.route_base.specs.declared.limits.TheConstants.{HIGHEST_COST, LAST_INSTANT}
use Rattle.route_base.specs.declared.types.Pair.{Pair}
use Rattle.route_base.specs.declared.types.Park.{Park}
use Rattle.route_base.specs.declared.types.Run.{Run}
use Rattle.route_base.specs.declared.types.TimedArc.{TimedArc}
use Rattle.propagation.specs.Inside.EntrySets.{AreEntries, HasEntriesAt}
use Rattle.propagation.specs.declared.entry_sets.EntrySets.{EntrySets}
use Rattle.state_dominance.specs.Inside.Dominance.{Task}
use Rattle.state_dominance.specs.Inside.Product.{Ruler, code, road_code, shut_by}
use Rattle.state_dominance.specs.Inside.Widening.{IsDriven, IsCleared}
use Rattle.ruled_states.specs.Inside.Codes.{base}
use Rattle.ruled_search.specs.Inside.Tasks.{task_of, state_bound}
use Rattle.ruled_search.specs.declared.task.Task.{Task as TaskHeld}
use Rattle.ruled_search.specs.declared.ways.Kind.{Kind}
use Rattle.ruled_search.specs.declared.ways.Kind.TheVariants.{Drive, Rest, Serve}
use Rattle.ruled_search.specs.declared.ways.Way.{Way}

-- the number of a kind, and of its arc, rest or service
abbrev pub kind_number : Kind → ℕ
kind_number (Drive a) = 0
kind_number (Rest place) = 1
kind_number (Serve place) = 2

abbrev pub kind_place : Kind → ℕ
kind_place (Drive a) = a.0
kind_place (Rest place) = place
kind_place (Serve place) = place

-- the code of the state in which a way begins, of that to which it leads, and the number of its road
abbrev pub tail_of : Way → ℕ
tail_of way = code base way.tail.0 way.before

abbrev pub head_of : Way → ℕ
head_of way = code base way.head.0 way.after

abbrev pub road_in : Way → ℕ
road_in way = road_code base (kind_number way.kind) (kind_place way.kind) way.tail.0 way.before

-- the place in the net of the runs in which a road of this kind at the node is shut; of no meaning for a service
abbrev pub IsListOf : Net → ℕ → Kind → ℕ → Type 0
IsListOf net v (Drive a) list = (arc : TimedArc) × (at_number net.arcs a.0 ≡ Some arc) × (arc.closed ≡ list)
IsListOf net v (Rest place) list = (park : Park) × (park_at net v ≡ Some park) × (park.shut ≡ list)
IsListOf net v (Serve place) list = ⊤

-- the way is a road over states between nodes of the net
pub record IsWay (R : Type 0) (ruling : R → Ruler) (task : TaskHeld R) (way : Way) : Type 0 where
  pub is : (task_of R ruling task).setting.road (road_in way)
      ≡ Some (record { tail = tail_of way; head = head_of way; minutes = way.minutes; cost = way.cost })
  pub head : (1 ≤ way.head.0) × (way.head.0 ≤ task.net.now.nodes)
  pub tail : (1 ≤ way.tail.0) × (way.tail.0 ≤ task.net.now.nodes)
  pub bound : state_bound (ruling task.ruler.now) task.bounds.now way.head.0 way.after ≡ Some way.bound
  pub some : 1 ≤ way.minutes
  pub short : way.minutes ≤ LAST_INSTANT
  pub cheap : way.cost ≤ HIGHEST_COST
  pub list : IsListOf task.net.now way.tail.0 way.kind way.list
  pub shut : (t : ℕ) → (task_of R ruling task).setting.shut (road_in way) t
      ≡ shut_by (setting_of task.net.now) (ruling task.ruler.now) (kind_number way.kind) (kind_place way.kind) way.tail.0 t

-- the runs have the minutes at which a drive over road x of this length can begin
abbrev pub AreStarts : Task → ℕ → ℕ → List Run → Type 0
AreStarts k x minutes starts = (t : ℕ) → IsTrue (any_has starts t) ↔ (IsOpen k.setting x t minutes × (t + minutes ≤ k.until))

-- the costs with which drives of the part over the way end, without what is prunable
pub record AreClearDrives (k : Task) (pairs : List Pair) (way : Way) (part clear : ℕ → Option ℕ) : Type 0 where
  pub ends : ℕ → Option ℕ
  pub driven : IsDriven k (road_in way) (tail_of way) part (head_of way) ends
  pub cleared : IsCleared k pairs (head_of way) ends clear

-- the way is a service
abbrev pub IsService : Kind → Type 0
IsService (Drive a) = ⊥
IsService (Rest place) = ⊥
IsService (Serve place) = ⊤

-- the runs in which a way with this list is shut; none for a service, which has a window
abbrev pub shut_in : Net → Kind → ℕ → List Run
shut_in net (Drive a) list = unwrap_or (slice_get net.closed list) []
shut_in net (Rest place) list = unwrap_or (slice_get net.closed list) []
shut_in net (Serve place) list = []

-- the set at the place of the way's list has its starts; where there is no place, no list shuts the way
abbrev pub IsPlaceReady : Net → ℕ → Way → EntrySets → Option ℕ → Type 0
IsPlaceReady net until way sets (Some k) = (way.list < length sets.lists.items)
    × HasEntriesAt (shut_in net way.kind way.list) until way.minutes sets way.list k × (IsService way.kind → ⊥)
IsPlaceReady net until way sets None = shut_in net way.kind way.list ≡ []

-- the runs have the starts of a road of this length, if it is a service, and else those of one that is never shut
abbrev pub AreLoneStarts : Task → ℕ → ℕ → Kind → List Run → Type 0
AreLoneStarts k x minutes (Drive a) runs = AreEntries [] k.until minutes runs
AreLoneStarts k x minutes (Rest place) runs = AreEntries [] k.until minutes runs
AreLoneStarts k x minutes (Serve place) runs = AreStarts k x minutes runs

abbrev pub IsLoneRun : Task → Way → List Run → Type 0
IsLoneRun k way runs = AreLoneStarts k (road_in way) way.minutes way.kind runs
