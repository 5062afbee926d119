-- A net that trips share stands for the roads of each of them.
use Rattle.std.proofs.Common.{ℕ, ◌≤◌, List, subst, arith}
use Rattle.route_base.specs.Matching.{StandsFor}
use Rattle.route_base.specs.Net.{setting_of}
use Rattle.route_base.specs.Setting.{Setting}
use Rattle.route_base.specs.declared.types.Run.{Run}
use Rattle.network_tables.specs.NetworkModel.{NetworkModel}
use Rattle.network_tables.specs.RoadSetting.{road_setting}
use Rattle.front_desk.specs.Inside.Planning.{trip_window}
use Rattle.front_desk.specs.Inside.Sharing.{IsSharedNet, IsSharedBy}
use Rattle.front_desk.specs.Plan.{trip_setting}
use Rattle.front_desk.specs.Trips.{Trip, vehicle_named}
use Rattle.front_desk.specs.declared.shared_nets.SharedNet.{SharedNet}

-- a setting that stands for another within a window does so within a part of it
stands_within : (s z : Setting) (window part : Run) → window.lo ≤ part.lo → part.hi ≤ window.hi → StandsFor s z window → StandsFor s z part
stands_within s z window part from to stands = record {
  nodes = stands.nodes;
  arcs = stands.arcs;
  road = stands.road;
  weight = stands.weight;
  shut = λ a t there low high. stands.shut a t there (omega (arith, from, low)) (omega (arith, to, high));
  wait_shut = λ v t there low high. stands.wait_shut v t there (omega (arith, from, low)) (omega (arith, to, high));
}

pub stands_shared : (network : NetworkModel) (shared : SharedNet) (trip : Trip) → IsSharedNet network shared → IsSharedBy shared trip
    → StandsFor (setting_of shared.net) (trip_setting network trip) (trip_window trip)
stands_shared network shared trip right by =
    stands_within (setting_of shared.net) (trip_setting network trip) shared.window (trip_window trip) by.from by.to
    (subst (λ (name : List ℕ). StandsFor (setting_of shared.net) (road_setting network (vehicle_named network name)) shared.window)
    by.named right.stands)
