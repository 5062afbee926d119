-- Trips, and the checks of a request (source: own).
use Rattle.std.specs.Prelude.{ℕ, ◌+◌, ◌-◌, ◌≤◌, ◌&&◌, Bool, not, nat_le, nat_lt, is_some, unwrap_or, Option, Some, None, List, if◌then◌else◌}
use Rattle.route_base.specs.declared.limits.TheConstants.{LONGEST_HORIZON}
use Rattle.route_base.specs.declared.types.Request.{Request}
use Rattle.route_base.specs.declared.faults.RequestFault.{RequestFault}
use Rattle.route_base.specs.declared.faults.RequestFault.TheVariants.{UnknownVehicle, OriginRange, GoalRange, UntilBeforeDepart}
use Rattle.route_base.specs.declared.faults.RequestFault.TheVariants.{HorizonTooLong}
use Rattle.table_reader.specs.NameIndex.{names_of, place_among, value_under}
use Rattle.vehicle_classes.specs.VehicleModel.{VehicleModel, any_vehicle}
use Rattle.network_tables.specs.NetworkModel.{NetworkModel}
pub use Rattle.front_words.specs.declared.commands.Trip.{Trip}
use Rattle.front_desk.specs.declared.requests.Trip.{Trip as TripWords}

-- one of n nodes
abbrev pub is_node : ℕ → ℕ → Bool
is_node n node = nat_le 1 node && nat_le node n

-- the first check that the time from one instant to another fails, which may have at most `longest` minutes
abbrev pub failed_time_within : ℕ → ℕ → ℕ → Option RequestFault
failed_time_within longest depart until =
    if nat_lt until depart then Some UntilBeforeDepart
    else if nat_lt longest (until - depart) then Some HorizonTooLong
    else None

-- the same where it may have 60 days
abbrev pub failed_time : ℕ → ℕ → Option RequestFault
failed_time depart until = failed_time_within LONGEST_HORIZON depart until

-- the first check that a trip over n nodes fails, whose time may have at most `longest` minutes
abbrev pub failed_check_over_within : ℕ → ℕ → Trip → Option RequestFault
failed_check_over_within longest n trip =
    if not (is_node n trip.origin) then Some OriginRange
    else if not (is_node n trip.goal) then Some GoalRange
    else failed_time_within longest trip.depart trip.until

-- the same where it may have 60 days
abbrev pub failed_check_over : ℕ → Trip → Option RequestFault
failed_check_over n trip = failed_check_over_within LONGEST_HORIZON n trip

-- whether the network has a vehicle of this name
abbrev pub is_vehicle : NetworkModel → List ℕ → Bool
is_vehicle network name = is_some (place_among (names_of network.vehicles) name)

-- the vehicle of a name; `any` where the network has none of this name
abbrev pub vehicle_named : NetworkModel → List ℕ → VehicleModel
vehicle_named network name = unwrap_or (value_under network.vehicles name) any_vehicle

-- the first check that a trip over a network fails, whose time may have at most `longest` minutes
abbrev pub failed_check_within : ℕ → NetworkModel → Trip → Option RequestFault
failed_check_within longest network trip =
    if is_vehicle network trip.vehicle then failed_check_over_within longest network.graph.nodes trip else Some UnknownVehicle

-- the same where it may have 60 days
abbrev pub failed_check : NetworkModel → Trip → Option RequestFault
failed_check network trip = failed_check_within LONGEST_HORIZON network trip

-- the trip as a request
abbrev pub request_of : Trip → Request
request_of trip = record { origin = record { 0 = trip.origin }; goal = record { 0 = trip.goal }; depart = trip.depart; until = trip.until }

-- the trip that the code holds
abbrev pub trip_in : TripWords → Trip
trip_in words = record { vehicle = words.vehicle.now; origin = words.origin; goal = words.goal; depart = words.depart; until = words.until }

-- a trip between nodes that are there, over a time of at most 60 days
pub record IsGoodTrip (n : ℕ) (trip : Trip) : Type 0 where
  pub origin_low : 1 ≤ trip.origin
  pub origin_high : trip.origin ≤ n
  pub goal_low : 1 ≤ trip.goal
  pub goal_high : trip.goal ≤ n
  pub in_order : trip.depart ≤ trip.until
  pub short : trip.until ≤ trip.depart + LONGEST_HORIZON
