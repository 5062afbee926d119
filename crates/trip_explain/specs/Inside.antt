-- What only the code and its proofs need: spots, first minutes within others, and minutes of a day (source: own).
use Rattle.std.specs.Prelude.{◌≡◌, ℕ, ◌*◌, ◌<◌, ◌≤◌, true, false, List}
use Rattle.route_base.specs.Itinerary.{Position}
use Rattle.route_base.specs.Runs.{any_has}
use Rattle.route_base.specs.Time.{first_instant}
use Rattle.route_base.specs.declared.limits.TheConstants.{DEAREST_MINUTE}
use Rattle.route_base.specs.declared.types.Run.{Run}
use Rattle.vehicle_classes.specs.VehicleModel.{VehicleModel}
use Rattle.zone_rules.specs.Zones.{wall_at}
use Rattle.network_tables.specs.Access.{area_at, area_place, is_let_in, is_park_open}
use Rattle.network_tables.specs.NetworkModel.{NetworkModel, park_of}
use Rattle.trip_explain.specs.declared.closed_minutes.Quiet.{Quiet}
use Rattle.trip_explain.specs.declared.explanation.Why.{Why}
use Rattle.trip_explain.specs.declared.legs.Spot.{Spot}
use Rattle.trip_explain.specs.Reasons.{IsBarredBy}

abbrev pub position_of : Spot → Position
position_of at = record { node = at.node.0; minute = at.minute; cost = at.cost }

-- a spot is at a node, from the first instant to the horizon, and cheap enough for sums of 64 bits
pub record IsSpot (network : NetworkModel) (until : ℕ) (at : Spot) : Type 0 where
  pub low : 1 ≤ at.node.0
  pub high : at.node.0 ≤ network.graph.nodes
  pub from : first_instant ≤ at.minute
  pub to : at.minute ≤ until
  pub cheap : at.cost ≤ at.minute * DEAREST_MINUTE

-- this is the first minute from `from` on, before `end`, that one of the runs has, or else `end`
pub record IsFirstWithin (runs : List Run) (from end first : ℕ) : Type 0 where
  pub from_on : from ≤ first
  pub up_to : first ≤ end
  pub before : (u : ℕ) → from ≤ u → u < first → any_has runs u ≡ false
  pub here : first < end → any_has runs first ≡ true

-- the arc lets the vehicle in at the minutes before t, and not at t, by this rule
pub record IsBarredFirst (network : NetworkModel) (vehicle : VehicleModel) (a from end t : ℕ) (why : Why) : Type 0 where
  pub from_on : from ≤ t
  pub within : t < end
  pub before : (u : ℕ) → from ≤ u → u < t → is_let_in network vehicle a u ≡ true
  pub by : IsBarredBy network vehicle a t why

-- waiting at the node is open at the minutes before t, and not at t
pub record IsShutFirst (network : NetworkModel) (v from end t : ℕ) : Type 0 where
  pub from_on : from ≤ t
  pub within : t < end
  pub before : (u : ℕ) → from ≤ u → u < t → is_park_open network (park_of network v) u ≡ true
  pub here : is_park_open network (park_of network v) t ≡ false

-- the minutes that clocks in the arc's area show at an instant are among these
pub record IsAmid (network : NetworkModel) (a : ℕ) (quiet : Quiet) (t : ℕ) : Type 0 where
  pub day : (wall_at (area_at network (area_place network a)).zone t).day ≡ quiet.day
  pub from_on : quiet.from ≤ (wall_at (area_at network (area_place network a)).zone t).minute
  pub before : (wall_at (area_at network (area_place network a)).zone t).minute < quiet.to

-- the arc lets the vehicle in at all of these minutes
abbrev pub LetsInAmid : NetworkModel → VehicleModel → ℕ → Quiet → Type 0
LetsInAmid network vehicle a quiet = (u : ℕ) → IsAmid network a quiet u → is_let_in network vehicle a u ≡ true
