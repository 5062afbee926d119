-- The road setting: trips are planned over the arcs of a network and its rated nodes (source: SEA 2020).
use Rattle.std.specs.Prelude.{ℕ, ◌+◌, ◌*◌, not, length}
use Rattle.std.specs.Option.{option_map}
use Rattle.route_base.specs.Net.{at_number}
use Rattle.route_base.specs.Setting.{Setting, Road}
use Rattle.route_base.specs.declared.limits.TheConstants.{COST_OF_MINUTE}
use Rattle.dimacs_reader.specs.declared.graph.GraphArc.{GraphArc}
use Rattle.vehicle_classes.specs.VehicleModel.{VehicleModel}
use Rattle.network_tables.specs.Access.{is_closed, is_park_open}
use Rattle.network_tables.specs.NetworkModel.{NetworkModel, park_of, toll_at, weight_at}

-- a minute of driving costs 1,000 thousandths, and each drive over an arc its toll
abbrev pub road_over : ℕ → GraphArc → Road
road_over toll arc = record { tail = arc.tail.0; head = arc.head.0; minutes = arc.minutes; cost = COST_OF_MINUTE * arc.minutes + toll }

-- the network's arcs, shut at the minutes at which they are closed to the vehicle; one may wait at the nodes with a weight, at the
-- minutes at which they are open
abbrev pub road_setting : NetworkModel → VehicleModel → Setting
road_setting network vehicle = record {
  nodes = network.graph.nodes;
  arcs = length network.graph.arcs;
  road = λ a. option_map (road_over (toll_at network a)) (at_number network.graph.arcs a);
  shut = is_closed network vehicle;
  weight = weight_at network;
  wait_shut = λ v t. not (is_park_open network (park_of network v) t);
}
