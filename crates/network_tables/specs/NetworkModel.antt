-- Road networks as contracts see them (source: own).
use Rattle.std.specs.Prelude.{◌≡◌, ℕ, ◌≤◌, ◌<◌, Option, List, [], length, unwrap_or, All}
use Rattle.std.specs.Option.{option_map}
use Rattle.route_base.specs.Net.{at_number}
use Rattle.route_base.specs.declared.limits.TheConstants.{HEAVIEST_WEIGHT, HIGHEST_TOLL}
use Rattle.route_base.specs.declared.types.Run.{Run}
use Rattle.dimacs_reader.specs.GraphModel.{GraphModel}
use Rattle.opening_hours.specs.Holidays.{HolidayLists}
use Rattle.vehicle_classes.specs.Vehicles.{VehicleEntry}
use Rattle.network_tables.specs.Parking.{ParkRow, Parked, park_for}
use Rattle.network_tables.specs.Rules.{Rule}
use Rattle.network_tables.specs.Tolls.{Toll, toll_for}
use Rattle.zone_rules.specs.declared.rows.ZoneRow.{ZoneRow}

-- an area: the rows of its zone, and its holidays
pub record Area : Type 0 where
  pub zone : List ZoneRow
  pub holidays : HolidayLists

-- a graph, the areas, for each arc the place of its area, the vehicles by name, the rules and the number of rows of rules that were
-- passed over, for each arc its closed minutes, the nodes where one may wait, and the tolls of arcs
pub record NetworkModel : Type 0 where
  pub graph : GraphModel
  pub areas : List Area
  pub roads : List ℕ
  pub vehicles : List VehicleEntry
  pub rules : List Rule
  pub passed_over : ℕ
  pub closures : List (List Run)
  pub parks : List Parked
  pub tolls : List Toll

-- the closed minutes of the arc of this number, in the order of its rows
abbrev pub closures_of : NetworkModel → ℕ → List Run
closures_of network a = unwrap_or (at_number network.closures a) []

-- how one may wait at the node of this number
abbrev pub park_of : NetworkModel → ℕ → Option ParkRow
park_of network v = park_for network.parks v

-- the price of a minute's wait there
abbrev pub weight_at : NetworkModel → ℕ → Option ℕ
weight_at network v = option_map (λ park. park.weight) (park_of network v)

-- the toll of the arc of this number, which is 0 without a row
abbrev pub toll_at : NetworkModel → ℕ → ℕ
toll_at network a = unwrap_or (toll_for network.tolls a) 0

-- a weight is at most 100 for a minute, and the area is one of this number of areas
pub record IsGoodParked (areas : ℕ) (parked : Parked) : Type 0 where
  pub small : parked.1.weight ≤ HEAVIEST_WEIGHT
  pub placed : parked.1.area < areas

-- the node is one of this number of nodes
abbrev pub IsParkedWithin : ℕ → Parked → Type 0
IsParkedWithin nodes parked = (1 ≤ parked.0) × (parked.0 ≤ nodes)

-- each of these places is below n
abbrev pub AreBelow : ℕ → List ℕ → Type 0
AreBelow n places = All (λ i. i < n) places

-- a well-formed network: each arc has an area and closures, parks are at its nodes and in its areas, and weights and tolls are small
pub record IsGoodNetwork (network : NetworkModel) : Type 0 where
  pub roads : length network.roads ≡ length network.graph.arcs
  pub placed : AreBelow (length network.areas) network.roads
  pub closures : length network.closures ≡ length network.graph.arcs
  pub parks : All (IsGoodParked (length network.areas)) network.parks
  pub rated : All (IsParkedWithin network.graph.nodes) network.parks
  pub tolls : (a : ℕ) → toll_at network a ≤ HIGHEST_TOLL
