-- The parks of a network's nodes, and the shut minutes of their timetables (source: own).
use Rattle.std.specs.Prelude.{◌≡◌, ℕ, ◌+◌, not, nat_eq, IfSome, Option, Some, List, length, slice_get}
use Rattle.std.specs.List.{AllZip}
use Rattle.std.specs.Map.{lookup}
use Rattle.std.specs.Option.{option_map}
use Rattle.route_base.specs.Runs.{AreRuns}
use Rattle.route_base.specs.declared.types.Park.{Park}
use Rattle.route_base.specs.declared.types.Run.{Run}
use Rattle.network_tables.specs.Access.{area_at, is_open_by}
use Rattle.network_tables.specs.NetworkModel.{NetworkModel}
use Rattle.network_tables.specs.Parks.{HasTimetable, ParkLists, Timetable}
use Rattle.network_tables.specs.declared.parks.RatedNode.{RatedNode}
use Rattle.ban_expansion.specs.Bans.{HasThose}

-- the runs have the minutes of the window at which waiting by the timetable isn't open
pub record HasShut (network : NetworkModel) (window : Run) (timetable : Timetable) (set : List Run) : Type 0 where
  pub runs : AreRuns set
  pub minutes : HasThose window (λ t. not (is_open_by timetable.hours (area_at network timetable.area) t)) set

-- for each of these timetables a list of its shut minutes
abbrev pub AreShutLists : NetworkModel → Run → List Timetable → List (List Run) → Type 0
AreShutLists network window timetables lists = AllZip (HasShut network window) timetables lists

-- the park of a rated node, which takes its shut runs from the list of its timetable, behind `first` other lists
abbrev pub park_over : ℕ → RatedNode → Park
park_over first node = record { weight = node.weight; shut = first + node.timetable }

-- the park is that of the node of this number, whose timetable is there
pub record IsParkAt (parks : ParkLists) (first v : ℕ) (park : Option Park) : Type 0 where
  pub is : park ≡ option_map (park_over first) (lookup (nat_eq v) parks.rated)
  pub there : IfSome (lookup (nat_eq v) parks.rated) (HasTimetable parks.timetables)

-- the parks of the nodes from 1 to `count`
pub record AreParks (parks : ParkLists) (first count : ℕ) (held : List (Option Park)) : Type 0 where
  pub counted : length held ≡ count
  pub each : (k : ℕ) (park : Option Park) → slice_get held k ≡ Some park → IsParkAt parks first (k + 1) park
