-- A list by numbers from one on.
use Rattle.std.proofs.Common.{◌≡◌, ℕ, zero, suc, ◌-◌, ◌≤◌, List, ap, arith}
use Rattle.std.specs.Prelude.{slice_get}
use Rattle.route_base.specs.Net.{at_number}
use Rattle.route_base.specs.declared.types.Run.{Run}
use Rattle.dimacs_reader.specs.GraphModel.{GraphModel}
use Rattle.vehicle_classes.specs.Vehicles.{VehicleEntry}
use Rattle.network_tables.specs.NetworkModel.{Area, NetworkModel}
use Rattle.network_tables.specs.Parking.{Parked}
use Rattle.network_tables.specs.RuleLists.{RuleList}
use Rattle.network_tables.specs.Tolls.{Toll}

pub at_number-get : {A : Type 0} (xs : List A) (a : ℕ) → 1 ≤ a → at_number xs a ≡ slice_get xs (a - 1)
at_number-get xs zero h = absurd (omega (arith, h))
at_number-get xs (suc k) h = (let e : k ≡ suc k - 1 = omega arith in ap (λ i. slice_get xs i) e)

-- the network of these parts
abbrev network_with : GraphModel → List Area → List ℕ → List VehicleEntry → RuleList → List (List Run) → List Parked → List Toll → NetworkModel
network_with graph areas roads vehicles rules closures parks tolls = record {
  graph = graph;
  areas = areas;
  roads = roads;
  vehicles = vehicles;
  rules = rules.rules;
  passed_over = rules.passed_over;
  closures = closures;
  parks = parks;
  tolls = tolls;
}

-- networks with the same parts
pub same_network : {g h : GraphModel} {areas areas2 : List Area} {roads roads2 : List ℕ} {vehicles vehicles2 : List VehicleEntry}
    {rules rules2 : RuleList} {closures closures2 : List (List Run)} {parks parks2 : List Parked} {tolls tolls2 : List Toll}
    → g ≡ h → areas ≡ areas2 → roads ≡ roads2 → vehicles ≡ vehicles2 → rules ≡ rules2 → closures ≡ closures2 → parks ≡ parks2 → tolls ≡ tolls2
    → network_with g areas roads vehicles rules closures parks tolls ≡ network_with h areas2 roads2 vehicles2 rules2 closures2 parks2 tolls2
same_network p q r v u s t w = λ i. network_with (p i) (q i) (r i) (v i) (u i) (s i) (t i) (w i)
