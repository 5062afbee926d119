-- The network that is drawn from a number (source: own).
use Rattle.std.specs.Prelude.{ℕ, pos, [], ◌∷◌, length, codes, replicate}
use Rattle.route_base.specs.Time.{first_instant}
use Rattle.vehicle_classes.specs.VehicleModel.{any_vehicle}
use Rattle.network_tables.specs.NetworkModel.{Area, NetworkModel}
use Rattle.area_tables.specs.Zones.{zone_row}
use Rattle.net_generator.specs.Layout.{roads_drawn}
use Rattle.drawn_network.specs.DrawnGraph.{drawn_graph}
use Rattle.drawn_network.specs.DrawnRows.{drawn_parks, drawn_runs}

-- the area of all arcs: it keeps UTC, and has no holidays
abbrev pub only_area : Area
only_area = record { zone = zone_row first_instant (pos 0) ∷ []; holidays = record { public = []; school = [] } }

-- the roads, closures and parking areas that are drawn; the one vehicle `any`, no rules and no tolls
abbrev pub network_drawn : ℕ → ℕ → ℕ → NetworkModel
network_drawn number rows columns = record {
  graph = drawn_graph number rows columns;
  areas = only_area ∷ [];
  roads = replicate (length (roads_drawn number rows columns).values) 0;
  vehicles = (codes "any", any_vehicle) ∷ [];
  rules = [];
  passed_over = 0;
  closures = drawn_runs number rows columns;
  parks = drawn_parks number rows columns;
  tolls = [];
}
