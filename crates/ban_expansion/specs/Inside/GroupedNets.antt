-- The arcs of a network and the closed minutes of their groups (source: own).
use Rattle.std.specs.Prelude.{◌≡◌, ℕ, ◌+◌, ◌*◌, Some, List, length, slice_get}
use Rattle.std.specs.List.{AllZip}
use Rattle.std.specs.Option.{option_map}
use Rattle.route_base.specs.Runs.{AreRuns}
use Rattle.route_base.specs.declared.limits.TheConstants.{COST_OF_MINUTE}
use Rattle.route_base.specs.declared.types.ArcId.{ArcId}
use Rattle.route_base.specs.declared.types.Run.{Run}
use Rattle.route_base.specs.declared.types.TimedArc.{TimedArc}
use Rattle.dimacs_reader.specs.declared.graph.GraphArc.{GraphArc}
use Rattle.vehicle_classes.specs.VehicleModel.{VehicleModel}
use Rattle.network_tables.specs.Access.{is_closed}
use Rattle.network_tables.specs.NetworkModel.{NetworkModel, toll_at}
use Rattle.ban_expansion.specs.Bans.{HasThose}

-- the arc of a timed net with this toll, which takes its closed runs from the list at this place
abbrev pub timed_over : ℕ → ℕ → GraphArc → TimedArc
timed_over place toll arc = record {
  tail = arc.tail;
  head = arc.head;
  minutes = arc.minutes;
  cost = COST_OF_MINUTE * arc.minutes + toll;
  closed = place;
}

-- the timed arc is the graph's at place k with its toll, and takes its closed runs from the place of its group
pub record IsTimedArc (network : NetworkModel) (groups : List ℕ) (k : ℕ) (arc : TimedArc) : Type 0 where
  pub is : option_map (timed_over arc.closed (toll_at network (k + 1))) (slice_get network.graph.arcs k) ≡ Some arc
  pub group : slice_get groups k ≡ Some arc.closed

-- the first `count` arcs of the network are timed
pub record AreTimed (network : NetworkModel) (groups : List ℕ) (count : ℕ) (arcs : List TimedArc) : Type 0 where
  pub counted : length arcs ≡ count
  pub each : (k : ℕ) (arc : TimedArc) → slice_get arcs k ≡ Some arc → IsTimedArc network groups k arc

-- the runs have the minutes of the window at which the arc is closed
pub record HasClosed (network : NetworkModel) (vehicle : VehicleModel) (window : Run) (a : ArcId) (set : List Run) : Type 0 where
  pub runs : AreRuns set
  pub minutes : HasThose window (is_closed network vehicle a.0) set

-- for each of these arcs a list of its closed minutes
abbrev pub AreClosedLists : NetworkModel → VehicleModel → Run → List ArcId → List (List Run) → Type 0
AreClosedLists network vehicle window arcs lists = AllZip (HasClosed network vehicle window) arcs lists

-- the lists are those of some vehicle
abbrev pub AreClosedOnce : NetworkModel → Run → List ArcId → List (List Run) → Type 0
AreClosedOnce network window arcs lists = (vehicle : VehicleModel) × AreClosedLists network vehicle window arcs lists
